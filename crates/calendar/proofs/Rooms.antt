-- Places of a row, moved by k back or on.
use mathlib.Core.Path.{◌≡◌, refl, sym, ◌∙◌}
use mathlib.Core.Bool.{Bool, true, false, cond}
use mathlib.Core.Logic.{⊎_elim}
use Prim.Native.Nat.{ℕ, ◌+◌, ◌-◌, ◌≤◌, ◌<◌}
use native.Mathlib.Omega.{arith}
use native.Mathlib.Nat.{add_assoc, sub-add-eq}
use borrow.Author.Tests.{leb-true, leb-false, ltb-true, ltb-false, le-leb, lt-leb, le-ltb}
use Rattle.digits.proofs.Order.{le-or_lt}
use Rattle.std.specs.Prelude.{Some, None}
use Rattle.calendar.specs.Moments.{moved, has_room, moved_within}

-- k is more than the places behind n, or reaches past those in front of it
abbrev pub Past : Bool → ℕ → ℕ → ℕ → Type 0
Past true k n limit = n < k
Past false k n limit = limit ≤ n + k

module _ (back : Bool) (k n limit : ℕ) where
  -- where there is no room k is past the row
  pub no_room : has_room back k n limit ≡ false → Past back k n limit
  no_room e = go back e
    where
      go : (b : Bool) → has_room b k n limit ≡ false → Past b k n limit
      go true e = leb-false _ _ e
      go false e = ltb-false _ _ e

  -- and else it is not
  pub not-past : has_room back k n limit ≡ true → Past back k n limit → ⊥
  not-past e = go back e
    where
      go : (b : Bool) → has_room b k n limit ≡ true → Past b k n limit → ⊥
      go true e p = omega (arith, leb-true k n e)
      go false e p = omega (arith, ltb-true (n + k) limit e)

  -- with room the place is one of the row
  pub below_limit : n < limit → has_room back k n limit ≡ true → moved back k n < limit
  below_limit h e = go back e
    where
      go : (b : Bool) → has_room b k n limit ≡ true → moved b k n < limit
      go true e = omega arith
      go false e = ltb-true _ _ e

  -- a place that code got is one to which there is room
  pub landed : {r : ℕ} → moved_within back k n limit ≡ Some r → (has_room back k n limit ≡ true) × (r ≡ moved back k n)
  landed {r} e = go (has_room back k n limit) e
    where
      go : (c : Bool) → cond c (Some (moved back k n)) None ≡ Some r → (c ≡ true) × (r ≡ moved back k n)
      go true e = (refl, cc)
      go false e = absurd (cc)

  -- and where it got none there is none
  pub left_row : moved_within back k n limit ≡ None → has_room back k n limit ≡ false
  left_row e = go (has_room back k n limit) e
    where
      go : (c : Bool) → cond c (Some (moved back k n)) None ≡ None → c ≡ false
      go true e = absurd (cc)
      go false e = refl

-- two places moved alike stay as far apart, where there is room for the first
pub moved_apart : (back : Bool) (k n m limit : ℕ) → has_room back k n limit ≡ true → n ≤ m → moved back k m ≡ moved back k n + (m - n)
moved_apart true k n m limit e h = let most = leb-true k n e in omega arith
moved_apart false k n m limit e h = omega arith

-- a and then b is a + b
pub moved_twice : (back : Bool) (a b n : ℕ) → moved back b (moved back a n) ≡ moved back (a + b) n
moved_twice true a b n = sym (sub-add-eq n a b)
moved_twice false a b n = add_assoc n a b

-- and has the same room
pub room_twice : (back : Bool) (a b n limit : ℕ) → has_room back a n limit ≡ true →
    has_room back b (moved back a n) limit ≡ has_room back (a + b) n limit
room_twice true a b n limit e =
    let h = leb-true a n e in
    ⊎_elim (λ l. le-leb _ _ l ∙ sym (le-leb (a + b) n (omega arith))) (λ l. lt-leb _ _ l ∙ sym (lt-leb (a + b) n (omega arith)))
    (le-or_lt b (n - a))
room_twice false a b n limit e = rw add_assoc

-- where a has none, a + b has none
pub no_room_twice : (back : Bool) (a b n limit : ℕ) → has_room back a n limit ≡ false → has_room back (a + b) n limit ≡ false
no_room_twice true a b n limit e = lt-leb (a + b) n (omega (arith, leb-false a n e))
no_room_twice false a b n limit e = le-ltb (n + (a + b)) limit (omega (arith, ltb-false (n + a) limit e))

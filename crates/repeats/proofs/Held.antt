-- Lists of what holds: a stretch in two parts, a stretch without, order, counting by a closed form, and the first.
use mathlib.Core.Path.{◌≡◌, refl, ap, sym, ◌∙◌}
use mathlib.Core.Bool.{Bool, true, false}
use mathlib.Core.Logic.{◌⊎◌, inl, inr, ⊎_elim}
use mathlib.Core.List.{List, ◌∷◌, ◌++◌, []}
use lib.ListN.{length, take}
use Prim.Native.Nat.{ℕ, zero, suc, ◌+◌, ◌-◌, ◌≤◌, ◌<◌}
use native.Mathlib.Nat.{eq-or-lt_of_le, zero-add, add-zero, suc-add}
use native.Mathlib.Omega.{arith}
use Rattle.repeats.specs.Held.{First, between, held, keep, one, seek}

-- what is kept stands in front
keep_append : (t : Bool) (n : ℕ) (l r : List ℕ) → keep t n (l ++ r) ≡ keep t n l ++ r
keep_append true n l r = refl
keep_append false n l r = refl

-- and counts
pub keep_length : (t : Bool) (n : ℕ) (l : List ℕ) → length (keep t n l) ≡ one t + length l
keep_length true n l = omega arith
keep_length false n l = omega arith

-- a stretch of j + k numbers is j and then k
pub held_append : (P : ℕ → Bool) (b j k : ℕ) → held P b (j + k) ≡ held P b j ++ held P (b + j) k
unfolding held
held_append P b zero k = rw (zero-add, add-zero)
held_append P b (suc j) k =
    let e : b + suc j ≡ suc b + j = omega arith in
    rw (suc-add j k, e, held_append P (suc b) j k) (keep_append (P b) b _ _)

-- the days from s below c are those below b and those from b on
pub between_append : (P : ℕ → Bool) (s b c : ℕ) → s ≤ b → b ≤ c → between P s c ≡ between P s b ++ between P b c
between_append P s b c p q =
    let whole : c - s ≡ (b - s) + (c - b) = omega arith in
    let there : b ≡ s + (b - s) = omega arith in
    rw whole (held_append P s (b - s) (c - b) ∙ ap (λ n. held P s (b - s) ++ held P n (c - b)) (sym there))

-- a stretch where nothing holds adds nothing
pub held_none : (P : ℕ → Bool) (b k : ℕ) → ((n : ℕ) → b ≤ n → n < b + k → P n ≡ false) → held P b k ≡ []
unfolding held
held_none P b zero f = refl
held_none P b (suc k) f = rw (f b (omega arith) (omega arith)) (held_none P (suc b) k (λ n p q. f n (omega arith) (omega arith)))

-- strictly increasing, all at least b
abbrev pub Increasing : ℕ → List ℕ → Type 0
Increasing b [] = Unit {0}
Increasing b (n ∷ l) = (b ≤ n) × Increasing (suc n) l

-- from a lower number on too
increasing_from : (a b : ℕ) (l : List ℕ) → a ≤ b → Increasing b l → Increasing a l
increasing_from a b [] h i = i
increasing_from a b (n ∷ l) h i = (let j = i.0 in omega arith, i.1)

keep_increasing : (t : Bool) (b : ℕ) (l : List ℕ) → Increasing (suc b) l → Increasing b (keep t b l)
keep_increasing true b l i = (omega arith, i)
keep_increasing false b l i = increasing_from b (suc b) l (omega arith) i

-- the list is strictly increasing
pub held_increasing : (P : ℕ → Bool) (b k : ℕ) → Increasing b (held P b k)
unfolding held
held_increasing P b zero = tt
held_increasing P b (suc k) = keep_increasing (P b) b _ (held_increasing P (suc b) k)

-- what holds at its first number is in front
pub held_cons : (P : ℕ → Bool) (n k : ℕ) → P n ≡ true → held P n (suc k) ≡ n ∷ held P (suc n) k
unfolding held
held_cons P n k e = rw e

-- the least that holds is the head of the list, and what follows are those behind it
pub first_head : (P : ℕ → Bool) (b n c : ℕ) → First P b n → n < c → between P b c ≡ n ∷ between P (suc n) c
first_head P b n c f h =
    let low = f.reached in
    between_append P b n c low (omega arith) ∙
    (ap (λ l. l ++ between P n c) (held_none P b (n - b) (λ k p q. f.none k p (omega arith))) ∙ cut)
  where
    cut : between P n c ≡ n ∷ between P (suc n) c
    cut = let e : c - n ≡ suc (c - suc n) = omega arith in rw e (held_cons P n (c - suc n) f.holds)

-- what seeking among the k numbers from b on gives
pub record Sought (P : ℕ → Bool) (b k n : ℕ) : Type 0 where
  pub low : b ≤ n
  pub high : n ≤ b + k
  pub none : (j : ℕ) → b ≤ j → j < n → P j ≡ false
  pub found : n < b + k → P n ≡ true

pub sought : (P : ℕ → Bool) (b k : ℕ) → Sought P b k (seek P b k)
unfolding seek
sought P b zero = record { low = omega arith; high = omega arith; none = λ j p q. absurd (omega arith); found = λ p. absurd (omega arith) }
sought P b (suc k) = go (sought P (suc b) k) (P b) refl
  where
    go : Sought P (suc b) k (seek P (suc b) k) → (t : Bool) → P b ≡ t → Sought P b (suc k) (elim t [ true ↦ b | false ↦ seek P (suc b) k ])
    go rest true e = record { low = omega arith; high = omega arith; none = λ j p q. absurd (omega arith); found = λ p. e }
    go rest false e = record {
      low = let l = rest.low in omega arith;
      high = let l = rest.high in omega arith;
      none = λ j p q. ⊎_elim (λ s. rw (← s) e) (λ s. rest.none j s q) (eq-or-lt_of_le p);
      found = λ p. rest.found (omega arith);
    }

-- a search ends where P holds, goes on where not, and ends where no number is left
module _ (P : ℕ → Bool) (b k : ℕ) where
  pub seek_at : P b ≡ true → 0 < k → seek P b k ≡ b
  unfolding seek
  seek_at e h = let z : k ≡ suc (k - 1) = omega arith in rw (z, seek, e)

  pub seek_on : (c n : ℕ) → P b ≡ false → c ≡ suc b → k ≡ suc n → seek P b k ≡ seek P c n
  unfolding seek
  seek_on c n e p z = rw (p, z, seek, e)

  pub seek_end : k ≡ 0 → seek P b k ≡ b
  unfolding seek
  seek_end z = rw z

-- each entry of the list has Q
abbrev pub Each : (ℕ → Type 0) → List ℕ → Type 0
Each Q [] = Unit {0}
Each Q (n ∷ l) = Q n × Each Q l

-- n is an entry of the list
abbrev pub In : ℕ → List ℕ → Type 0
In n [] = ⊥
In n (m ∷ l) = (n ≡ m) ⊎ In n l

pub each_map : (Q R : ℕ → Type 0) (l : List ℕ) → ((n : ℕ) → Q n → R n) → Each Q l → Each R l
each_map Q R [] f e = e
each_map Q R (n ∷ l) f e = (f n e.0, each_map Q R l f e.1)

-- a number of the stretch at which P holds
pub record Held (P : ℕ → Bool) (b k n : ℕ) : Type 0 where
  pub low : b ≤ n
  pub high : n < b + k
  pub holds : P n ≡ true

-- each entry of the list is one
pub held_sound : (P : ℕ → Bool) (b k : ℕ) → Each (Held P b k) (held P b k)
unfolding held
held_sound P b zero = tt
held_sound P b (suc k) = go (held_sound P (suc b) k) (P b) refl
  where
    more : (n : ℕ) → Held P (suc b) k n → Held P b (suc k) n
    more n h = let x = h.low in let y = h.high in record { low = omega arith; high = omega arith; holds = h.holds }

    go : Each (Held P (suc b) k) (held P (suc b) k) → (t : Bool) → P b ≡ t → Each (Held P b (suc k)) (keep t b (held P (suc b) k))
    go rest true e = (record { low = omega arith; high = omega arith; holds = e }, each_map (Held P (suc b) k) (Held P b (suc k)) (held P (suc b) k) more rest)
    go rest false e = each_map (Held P (suc b) k) (Held P b (suc k)) (held P (suc b) k) more rest

keep_in : (t : Bool) (b n : ℕ) (l : List ℕ) → In n l → In n (keep t b l)
keep_in true b n l i = inr i
keep_in false b n l i = i

-- and each one is an entry of the list
pub held_complete : (P : ℕ → Bool) (b k n : ℕ) → Held P b k n → In n (held P b k)
unfolding held
held_complete P b zero n h = let x = h.low in let y = h.high in absurd (omega arith)
held_complete P b (suc k) n h = ⊎_elim
    (λ (e : b ≡ n). let t : P b ≡ true = rw e h.holds in rw t (inl (sym e)))
    (λ (l : b < n). let y = h.high in keep_in (P b) b n _ (held_complete P (suc b) k n (record { low = l; high = omega arith; holds = h.holds })))
    (eq-or-lt_of_le h.low)

-- a test counts at most 1
pub one-most : (t : Bool) → one t ≤ 1
one-most true = omega arith
one-most false = omega arith

-- the list is no longer than the stretch
pub held_short : (P : ℕ → Bool) (b k : ℕ) → length (held P b k) ≤ k
unfolding held
held_short P b zero = omega arith
held_short P b (suc k) = rw keep_length (omega (arith, held_short P (suc b) k, one-most (P b)))

-- what is taken of an increasing list is increasing
pub take-increasing : (c b : ℕ) (l : List ℕ) → Increasing b l → Increasing b (take c l)
take-increasing zero b l h = tt
take-increasing (suc c) b [] h = tt
take-increasing (suc c) b (n ∷ l) h = (h.0, take-increasing c (suc n) l h.1)

-- and has what each entry has
pub take-each : (Q : ℕ → Type 0) (c : ℕ) (l : List ℕ) → Each Q l → Each Q (take c l)
take-each Q zero l h = tt
take-each Q (suc c) [] h = tt
take-each Q (suc c) (n ∷ l) h = (h.0, take-each Q c l h.1)

-- n is the least number from b on at which P holds, or P holds at none below c
pub record FirstBelow (P : ℕ → Bool) (b n c : ℕ) : Type 0 where
  pub reached : b ≤ n
  pub holds : n < c → P n ≡ true
  pub none_before : (k : ℕ) → b ≤ k → k < n → k < c → P k ≡ false

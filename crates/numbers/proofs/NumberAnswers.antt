-- Laws of a number reader's answer, which the proofs of readers cite, here and in the crates above: what bounds say of value and count.
use Rattle.std.specs.Prelude.{Some, None, Ok, Err}
use mathlib.Core.Path.{◌≡◌, refl}
use mathlib.Core.Bool.{Bool, true, false}
use Prim.Native.Nat.{ℕ, ◌≤◌}
use native.Mathlib.Omega.{arith}
use Rattle.numbers.specs.declared.Number.{Number}
use Rattle.numbers.specs.Answers.{NumberFound, MAX, Bounded, Taken, Read, pick, or_else, and_then, taken_of}

-- what follows an answer is the same where it is the same within the answer's bounds
pub then_same : (w : NumberFound) (f g : Number → NumberFound) {k hi n : ℕ} → Taken w k hi n
    → ((a : Number) → a.value ≤ hi → k ≤ a.taken → a.taken ≤ n → f a ≡ g a) → and_then w f ≡ and_then w g
then_same (Ok (Some a)) f g h same = let b = h.bounds in same a (omega arith) (omega arith) (omega arith)
then_same (Ok None) f g h same = refl
then_same (Err e) f g h same = refl

read' : (w : NumberFound) (k hi n : ℕ) → hi ≤ MAX → Taken w k hi n → Read w k n
read' (Ok (Some a)) k hi n e h = record { bounds = let b = h.bounds in omega arith }
read' (Ok None) k hi n e h = record { bounds = tt }
read' (Err o) k hi n e h = record { bounds = tt }

-- what never overflows is a number
pub read : {w : NumberFound} {k hi n : ℕ} → hi ≤ MAX → Taken w k hi n → Read w k n
read {w} {k} {hi} {n} e h = read' w k hi n e h

module _ {overflow : Type 0} where
  -- what is known of the value and the count, once the answer is known
  pub found : {w : NumberFound} {a : Number} {k hi n : ℕ} → w ≡ Ok (Some a) → Bounded overflow w k hi n
      → (a.value ≤ hi) × (k ≤ a.taken) × (a.taken ≤ n)
  found e h = (rw e at h).bounds

  -- what a promise says, from the law of its definition
  pub promised : {r w : NumberFound} {k hi n : ℕ} → r ≡ w → Bounded overflow w k hi n → (r ≡ w) × Bounded overflow r k hi n
  promised e h = (e, rw e h)

  most' : (w : NumberFound) (k hi n : ℕ) → Bounded overflow w k hi n → taken_of w ≤ n
  most' (Ok (Some a)) k hi n h = let b = h.bounds in omega arith
  most' (Ok None) k hi n h = omega arith
  most' (Err e) k hi n h = omega arith

  -- an answer takes no more than there is
  pub most : {w : NumberFound} {k hi n : ℕ} → Bounded overflow w k hi n → taken_of w ≤ n
  most {w} {k} {hi} {n} h = most' w k hi n h

  -- nothing has all bounds
  pub nothing : {k hi n : ℕ} → Bounded overflow (Ok None) k hi n
  nothing = record { bounds = tt }

  wider' : (w : NumberFound) (k hi n k' hi' n' : ℕ) → (k' ≤ k) × (hi ≤ hi') × (n ≤ n')
      → Bounded overflow w k hi n → Bounded overflow w k' hi' n'
  wider' (Ok (Some a)) k hi n k' hi' n' e h = record { bounds = let b = h.bounds in omega arith }
  wider' (Ok None) k hi n k' hi' n' e h = nothing
  wider' (Err o) k hi n k' hi' n' e h = record { bounds = h.bounds }

  -- bounds that are tighter than those wanted
  pub wider : {w : NumberFound} {k hi n k' hi' n' : ℕ} → (k' ≤ k) × (hi ≤ hi') × (n ≤ n')
      → Bounded overflow w k hi n → Bounded overflow w k' hi' n'
  wider {w} {k} {hi} {n} {k'} {hi'} {n'} e h = wider' w k hi n k' hi' n' e h

  -- a test, with what it says on either side
  pub pick_bounded : (b : Bool) (x y : NumberFound) {k hi n : ℕ} → (b ≡ true → Bounded overflow x k hi n)
      → (b ≡ false → Bounded overflow y k hi n) → Bounded overflow (pick b x y) k hi n
  pick_bounded true x y f g = f refl
  pick_bounded false x y f g = g refl

  -- two alternatives
  pub or-bounded : (a b : NumberFound) {k hi n : ℕ} → Bounded overflow a k hi n → Bounded overflow b k hi n
      → Bounded overflow (or_else a b) k hi n
  or-bounded (Ok (Some a)) b g h = g
  or-bounded (Ok None) b g h = h
  or-bounded (Err e) b g h = g

  -- what follows an answer that has bounds of its own
  pub then_bounded : (w : NumberFound) (f : Number → NumberFound) {p q m k hi n : ℕ} → Taken w p q m
      → ((a : Number) → a.value ≤ q → p ≤ a.taken → a.taken ≤ m → Bounded overflow (f a) k hi n) → Bounded overflow (and_then w f) k hi n
  then_bounded (Ok (Some a)) f g h = let b = g.bounds in h a (omega arith) (omega arith) (omega arith)
  then_bounded (Ok None) f g h = nothing
  then_bounded (Err e) f g h = absurd g.bounds

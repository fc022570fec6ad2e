-- What the number of a writing says: its bytes, or what is refused. Assumes nothing.
use Rattle.std.specs.Prelude.{ℕ, ◌≡◌, refl, ◌≤◌, List, length, Result, IfOk}
use native.Mathlib.Omega.{arith}
use Rattle.calendar.specs.Gregorian.{days}
use Rattle.refusals.specs.Answers.{Answer}
use Rattle.refusals.specs.Writings.{wrote_of}
use Rattle.refusals.specs.declared.Reason.{Reason}
use Rattle.refusals.proofs.Holds.{Holds, of_given, of_refusal, Bounded}
use Rattle.fuzzydate.specs.Called.{written_code, wrote_code}

-- few bytes or rows, and the number is the code
pub record Coded (w : Answer (List ℕ)) (r : Result ℕ Reason) : Type 0 where
  pub few : IfOk r (λ count. count ≤ days)
  pub says : wrote_code r ≡ written_code w

-- of what is no longer than the calendar has days
pub coded :
    {P : List ℕ → Type 0} {high : ℕ} {w : Answer (List ℕ)} {r : Result ℕ Reason} →
    ((text : List ℕ) → P text → length text ≤ days) → Holds P (Bounded 8 high 0) w → r ≡ wrote_of w → Coded w r
coded {P} {high} short h e = rw e (go h)
  where
    go : {w : Answer (List ℕ)} → Holds P (Bounded 8 high 0) w → Coded w (wrote_of w)
    go (of_given {x} p) = record { few = short x p; says = refl }
    go (of_refusal {r} part) = record { few = tt; says = omega (arith, part) }

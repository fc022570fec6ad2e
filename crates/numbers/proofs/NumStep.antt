-- A number that begins again is read as `num_of` reads it, since the lexemes left fall at each turn.
use Rattle.std.specs.Prelude.{None, Ok}
use mathlib.Core.Path.{◌≡◌}
use mathlib.Core.List.{List}
use Prim.Native.Nat.{ℕ, ◌+◌, ◌*◌, ◌≤◌, ◌<◌}
use native.Mathlib.Omega.{arith}
use lib.ListN.{length, drop, length-drop}
use Rattle.lexer.specs.Lexemes.{And}
use Rattle.lexer.specs.declared.reading.Reading.{Reading}
use Rattle.numbers.specs.Slices.{is_at, one_if}
use Rattle.numbers.specs.Answers.{NumberFound, Taken, number}
use Rattle.numbers.specs.Numbers.{num_triple_of, num_triple_unit_of, tail_of, units_of, num_step, num_of}
use Rattle.numbers.proofs.Again.{again_is}
use Rattle.numbers.proofs.NumberAnswers.{wider, then_same}
use Rattle.numbers.proofs.NumberBounds.{num_triple_taken, num_triple_unit_taken}

module _ (N M : List ℕ → NumberFound) (l : List ℕ) (agree : (m : List ℕ) → length m < length l → N m ≡ M m) where
  tail_agree : (head t : ℕ) → 0 < t → t ≤ length l → tail_of N l head t ≡ tail_of M l head t
  unfolding tail_of
  tail_agree head t p q =
      let tokens = t + one_if (is_at l t And) in
      rw (agree (drop tokens l) (simp length-drop (omega arith)))

  units_agree : (triple : NumberFound) → Taken triple 0 999 (length l) → units_of N l triple ≡ units_of M l triple
  unfolding units_of
  units_agree triple h =
      then_same triple _ _ h (λ n a b d.
      let behind = drop n.taken l in
      then_same (num_triple_unit_of behind) _ _ (num_triple_unit_taken behind) (λ unit e f g.
      let left = length-drop n.taken l in
      tail_agree (n.value * unit.value) (n.taken + unit.taken) (omega arith) (omega arith)))

  step_agree : (reading : Reading) → num_step reading N l ≡ num_step reading M l
  unfolding num_step
  step_agree reading =
      rw (units_agree (num_triple_of reading l) (wider (omega arith) (num_triple_taken reading l)), units_agree (number 1 0) (record { bounds = omega arith }))

-- `Num::parse` calls itself
pub num_is : (reading : Reading) (l : List ℕ) → num_of reading l ≡ num_step reading (num_of reading) l
unfolding num_of
num_is reading l = again_is (Ok None) (num_step reading) (λ N M m agree. step_agree N M m agree reading) l

-- `scan::find` meets its contract. Assumes nothing.
use Rattle.std.proofs.Common.{ℕ, ◌≡◌, ◌<◌, ◌-◌, take, drop, get_or, length, length-take, length-drop, ap, arith, rules}
use Rattle.scan.specs.Bytes.{index_of}
use Rattle.scan.proofs.Steps.{index_is, part}
use Rattle.scan.proofs.find.Goals as goal

pub returns-in-Some-clause-value : goal.returns-in-Some-clause-value
returns-in-Some-clause-value c =
    let a = c.args in
    let l = take (a.end - a.start) (drop a.start a.s.now) in
    let before : (k : ℕ) → k < c.in-Some.i → get_or l k 0 ≡ a.b → ⊥ = search rules in
    let here : get_or l c.in-Some.i 0 ≡ a.b = search rules in
    omega (arith, index_is a.b l c.in-Some.i (search rules) before (λ less. here), ap (index_of a.b) (part a.start a.end a.s.now c.requires.0))

pub returns-in-None-clause-value : goal.returns-in-None-clause-value
returns-in-None-clause-value c =
    let a = c.args in
    let l = take (a.end - a.start) (drop a.start a.s.now) in
    let before : (k : ℕ) → k < length l → get_or l k 0 ≡ a.b → ⊥ = search rules in
    let long : length l ≡ a.end - a.start = simp (length-take, length-drop) (omega arith) in
    omega (
      arith,
      long,
      index_is a.b l (length l) (omega arith) before (λ less. absurd (omega arith)),
      ap (index_of a.b) (part a.start a.end a.s.now c.requires.0),
    )

-- `rules::part::day_bit` meets its contract. Assumes nothing.
use Rattle.std.proofs.Common.{ℕ, ◌≡◌, ◌<◌, ◌≤◌, ◌*◌, ◌^◌, ◌%◌, List, [], get_or, length, true, false, rules, arith}
use borrow.Author.Tests.{lt-ltb}
use Rattle.std.specs.List.{position_or_len}
use Rattle.std.proofs.Math.Pow.{pow_mono}
use Rattle.std.proofs.lemmas.List.Sums.{position_or_len_is}
use Rattle.digits.specs.Forms.{of_form}
use Rattle.rules.specs.Days.{weekdays, day_bit}
use Rattle.rules.proofs.part.day_bit.Goals as goal

pub returns-in_err-place : goal.returns-in_err-place
unfolding day_bit
returns-in_err-place c =
    let s = c.args.s.now in
    let l = c.iter.result.rest.now in
    let same : l ≡ weekdays = search rules in
    let never : (k : ℕ) → k < length l → of_form (get_or l k []) s ≡ false = search rules in
    rw (c.from_residual.ensures, position_or_len_is (λ (day : List ℕ). of_form day s) weekdays 7 [] (omega arith) (rw same at never) (λ l. absurd (omega arith)))

pub returns : goal.returns
unfolding day_bit
returns c =
    let s = c.args.s.now in
    let place = c.in_ok-place.place in
    let there : (place < 7) × (of_form (get_or weekdays place []) s ≡ true) = search rules in
    let before : (k : ℕ) → k < place → of_form (get_or weekdays k []) s ≡ false = search rules in
    let first : position_or_len (λ (day : List ℕ). of_form day s) weekdays ≡ place =
    position_or_len_is (λ (day : List ℕ). of_form day s) weekdays place [] (omega (arith, there.0)) before (λ l. there.1) in
    let small : 2 ^ place ≤ 2 ^ 6 = pow_mono {i = place} {j = 6} (omega (arith, there.0)) in
    let whole : 1 * 2 ^ place % 4294967296 ≡ 2 ^ place = omega arith in
    rw (whole, first, lt-ltb place 7 there.0)

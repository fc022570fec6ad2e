-- `digits::digit::width` meets its contract. Assumes nothing.
use Rattle.std.proofs.Common.{ℕ, ◌≡◌, refl, ◌+◌, ◌*◌, ◌^◌, ◌<◌, ◌≤◌, arith}
use Rattle.std.specs.Option.{IfNone, IfSome, unwrap_or}
use Rattle.std.proofs.Common.{Option, Some, None}
use Rattle.digits.specs.Digits.{width_of}
use Rattle.digits.proofs.Widths.{width_log}
use Rattle.digits.proofs.digit.width.Goals as goal

-- a number's width from its logarithm
wide : (n : ℕ) (r : Option ℕ) → IfNone r (n ≡ 0) → IfSome r (λ k. 10 ^ k ≤ n) → IfSome r (λ k. n < 10 * 10 ^ k) → IfSome r (λ k. k < 20) →
    (unwrap_or r 0 + 1 ≡ width_of n) × (unwrap_or r 0 + 1 ≤ 20)
unfolding width_of
wide n None none low high within = rw none (refl, omega arith)
wide n (Some k) none low high within = omega (arith, width_log n k within low high)

pub returns : goal.returns
returns c =
    let e = c.checked_ilog10.ensures in
    rw c.unwrap_or.ensures (wide c.args.n c.checked_ilog10.result e.none e.power_le e.next_power_gt e.bound)

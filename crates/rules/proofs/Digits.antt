-- A text of digits, a byte at a time. Assumes nothing.
use Prim.Native.Nat.{ℕ, ◌+◌, ◌*◌, ◌-◌, ◌≤◌, ◌<◌, min}
use native.Mathlib.Numerals.{add-one}
use native.Mathlib.Omega.{arith}
use mathlib.Core.Path.{◌≡◌, ap, sym, ◌∙◌}
use mathlib.Core.Bool.{true, false, ◌&&◌}
use mathlib.Core.List.{List}
use lib.ListN.{length, get_or, drop, drop_of_length-le}
use lib.Seq.{drop-cons}
use Rattle.digits.specs.Digits.{is_digit, value_from}
use Rattle.digits.proofs.Says.{value_step, value_over, cut_off}
use Rattle.rules.specs.Numbers.{all_digits, number_in}

-- what stands before i are digits, and what all say, cut off at the first number that is too large, is what the rest says behind v
pub record Behind (s : List ℕ) (i v : ℕ) : Type 0 where
  pub digits : all_digits s ≡ all_digits (drop i s)
  pub most : v ≤ 4294967296
  pub says : min (value_from 0 s) 4294967296 ≡ min (value_from v (drop i s)) 4294967296

module _ {s : List ℕ} {i v : ℕ} (b : Behind s i v) where
  -- by the byte at i
  step : i < length s → all_digits s ≡ (is_digit (get_or s i 0) && all_digits (drop (i + 1) s))
  step h = b.digits ∙ rw (drop-cons s i 0, add-one)

  pub one_more : i < length s → is_digit (get_or s i 0) ≡ true → Behind s (i + 1) (min (v * 10 + (get_or s i 0 - 48)) 4294967296)
  one_more h digit =
      record {
        digits = step h ∙ rw digit;
        most = omega arith;
        says =
            b.says
            ∙ ap (λ x. min x 4294967296) (value_step s i v h)
            ∙ sym (cut_off (v * 10 + (get_or s i 0 - 48)) 4294967296 (drop (i + 1) s));
      }

  pub none_more : i < length s → is_digit (get_or s i 0) ≡ false → number_in s ≡ 0
  none_more h other = let not_all : all_digits s ≡ false = step h ∙ rw other in rw not_all

  -- where nothing is left, v is what all say, cut off
  pub ended : length s ≤ i → min (number_in s) 4294967296 ≡ v
  ended over =
      let all : all_digits s ≡ true = b.digits ∙ rw (drop_of_length-le s over) in
      let value : min (value_from 0 s) 4294967296 ≡ v = omega (arith, b.says ∙ ap (λ x. min x 4294967296) (value_over s i v over), b.most) in
      rw all value

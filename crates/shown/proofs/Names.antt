-- The months' names are the words of the months in either reading. Assumes nothing.
use mathlib.Core.Path.{◌≡◌, refl, sym, ap}
use mathlib.Core.Bool.{Bool, true, false, ◌&&◌, and-eq-true_iff, true≢false}
use mathlib.Core.List.{List}
use Prim.Native.Nat.{ℕ, suc, ◌+◌, ◌-◌, ◌≤◌, ◌<◌}
use Prim.Native.Char.{code}
use native.Mathlib.Omega.{arith}
use lib.Dec.{eqb, leb, ltb}
use Rattle.std.proofs.Common.{Option, Some, None}
use lib.ListN.{length}
use borrow.Author.Tests.{eqb-true, leb-true, ltb-true}
use Rattle.digits.specs.Bytes.{bytes_of}
use Rattle.digits.proofs.Tabled.{all_below, each_below}
use Rattle.lexer.specs.Lexemes.{January, At}
use Rattle.lexer.specs.Words.{meaning, folded}
use Rattle.lexer.specs.Keywords.{keywords, words_in}
use Rattle.lexer.specs.Classes.{class_of}
use Rattle.lexer.specs.Lex.{run}
use Rattle.lexer.specs.declared.reading.Reading.{Reading}
use Rattle.lexer.specs.declared.reading.Reading.TheVariants.{First, Second}
use Rattle.lexer.proofs.Pieces.{All}
use Rattle.shown.specs.Phrases.{month_names, month_name}

-- whether a word means the lexeme k
abbrev means : Option ℕ → ℕ → Bool
means None k = false
means (Some l) k = eqb l k

meant : (x : Option ℕ) (k : ℕ) → means x k ≡ true → x ≡ Some k
meant None k e = absurd (true≢false (sym e))
meant (Some l) k e = ap Some (eqb-true l k e)

-- w is a word of letters, as "a" is one, for the lexeme k, of 1 to 9 bytes
abbrev named : Reading → List ℕ → ℕ → Bool
named reading w k =
    means (meaning (words_in reading) (folded w)) k && (eqb (run (class_of (code "a")) w) (length w) && (ltb 0 (length w) && leb (length w) 9))

-- the same, as a record
pub record Named (reading : Reading) (w : List ℕ) (k : ℕ) : Type 0 where
  pub known : meaning (words_in reading) (folded w) ≡ Some k
  pub letters : All (class_of (code "a")) w
  pub least : 0 < length w
  pub most : length w ≤ 9

test_named : (reading : Reading) (w : List ℕ) (k : ℕ) → named reading w k ≡ true → Named reading w k
test_named reading w k e =
    let a = (and-eq-true_iff (means (meaning (words_in reading) (folded w)) k) _).0 e in
    let b = (and-eq-true_iff (eqb (run (class_of (code "a")) w) (length w)) _).0 a.1 in
    let c = (and-eq-true_iff (ltb 0 (length w)) _).0 b.1 in
    record {
      known = meant (meaning (words_in reading) (folded w)) k a.0;
      letters = record { full = eqb-true (run (class_of (code "a")) w) (length w) b.0 };
      least = ltb-true 0 (length w) c.0;
      most = leb-true (length w) 9 c.1;
    }

-- month i + 1 by its name
abbrev name_test : Reading → ℕ → Bool
name_test reading i = named reading (month_name (suc i)) (January + i)

all_named : (reading : Reading) → all_below (name_test reading) 12 ≡ true
unfolding month_name month_names keywords words_in class_of
all_named First = refl
all_named Second = refl

-- each month by its name
pub month_named : (reading : Reading) (m : ℕ) → 1 ≤ m → m ≤ 12 → Named reading (month_name m) (January + (m - 1))
month_named reading m a b =
    let next : suc (m - 1) ≡ m = omega arith in
    test_named reading (month_name m) (January + (m - 1)) (rw next at (each_below (name_test reading) 12 (all_named reading) (m - 1) (omega arith)))

pub at_named : (reading : Reading) → Named reading (bytes_of "at") At
unfolding keywords words_in class_of
at_named First = test_named First (bytes_of "at") At refl
at_named Second = test_named Second (bytes_of "at") At refl

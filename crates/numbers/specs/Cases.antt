-- Worked cases: what `Num::parse` gives for each row of lexemes, computed.
use Rattle.std.specs.Prelude.{◌≡◌, refl, None, Ok, Err, List, [], ◌∷◌, map, ℕ, ◌+◌, ◌*◌}
use Rattle.lexer.specs.Lexemes.{One, Two, Three, Four, Five, Six, Seven, Nine, Twenty, Sixty, Ninety, Dash, And, Zero, Hundred, Thousand, Million, Billion, ST, ND, RD, TH, NUM}
use Rattle.lexer.specs.declared.reading.Reading.{Reading}
use Rattle.lexer.specs.declared.reading.Reading.TheVariants.{First, Second}
use Rattle.numbers.specs.Slices.{get, is_at, within}
use Rattle.numbers.specs.Answers.{NumberFound, overflow, number, written, fits_of}
use Rattle.numbers.specs.Numbers.{is_ending, word_of, literal_of, ones_of, teens_of, tens_of, tens_ones_of, num_double_of, sum_of, tail_of, hundreds_of, num_triple_of, num_triple_unit_of, units_of, num_step, num_of}
use Rattle.numbers.specs.Again.{turns, again}

-- a row: the lexemes, and what is read of them
pub record Case : Type 0 where
  pub lexemes : List ℕ
  pub reading : NumberFound

-- the literal n, written with k digits
abbrev Num : ℕ → ℕ → ℕ
Num k n = NUM * k + n

-- four billion two hundred ninety four million nine hundred sixty seven thousand two hundred ninety, and ones
abbrev near_max : ℕ → List ℕ
near_max ones =
    Four ∷ Billion
    ∷ Two ∷ Hundred ∷ Ninety ∷ Four ∷ Million
    ∷ Nine ∷ Hundred ∷ Sixty ∷ Seven ∷ Thousand
    ∷ Two ∷ Hundred ∷ Ninety ∷ ones ∷ []

-- the lexemes of a row and its reading
abbrev row : List ℕ → NumberFound → Case
row l r = record { lexemes = l; reading = r }

-- the table of the first reading
unfoldable pub cases : List Case
cases =
    -- words
    row (Twenty ∷ Dash ∷ Two ∷ Thousand ∷ And ∷ Three ∷ Hundred ∷ Five ∷ []) (number 22305 8)
    ∷ row (Ninety ∷ Dash ∷ Nine ∷ []) (number 99 3)
    ∷ row (One ∷ Hundred ∷ []) (number 100 2)
    ∷ row (Hundred ∷ And ∷ Five ∷ []) (number 105 3)
    ∷ row (Five ∷ Thousand ∷ []) (number 5000 2)
    ∷ row (Thousand ∷ []) (number 1000 1)
    -- a dash behind tens is taken though no ones follow; behind ones it is not
    ∷ row (Ninety ∷ Dash ∷ []) (number 90 2)
    ∷ row (Ninety ∷ Nine ∷ Dash ∷ []) (number 99 2)
    -- after an `and` a number has to follow
    ∷ row (One ∷ Hundred ∷ And ∷ []) (number 1 1)
    ∷ row (Hundred ∷ And ∷ []) (Ok None)
    -- `Zero` is never a number, the digit 0 is
    ∷ row (Zero ∷ []) (Ok None)
    ∷ row (Num 1 0 ∷ []) (written 0 1 1)
    -- an ending is taken with some numbers only
    ∷ row (Num 1 4 ∷ RD ∷ []) (written 4 1 2)
    ∷ row (Num 2 12 ∷ TH ∷ []) (written 12 2 2)
    ∷ row (Num 2 24 ∷ TH ∷ []) (written 24 2 1)
    ∷ row (Num 3 100 ∷ TH ∷ []) (written 100 3 2)
    ∷ row (Num 4 1000 ∷ []) (written 1000 4 1)
    ∷ row (Num 4 1000 ∷ TH ∷ []) (written 1000 4 1)
    -- leading zeros are digits too; digits behind or before a word are not the whole number
    ∷ row (Num 4 5 ∷ []) (written 5 4 1)
    ∷ row (Num 256 27 ∷ []) (written 27 256 1)
    ∷ row (Num 1 5 ∷ Hundred ∷ []) (number 500 2)
    ∷ row (Twenty ∷ Num 1 5 ∷ []) (number 25 2)
    -- the largest u32, and one more
    ∷ row (Num 10 4294967295 ∷ []) (written 4294967295 10 1)
    ∷ row (near_max Five) (number 4294967295 16)
    ∷ row (near_max Six) (Err overflow)
    ∷ row (Thousand ∷ And ∷ Num 10 4294966296 ∷ []) (Err overflow)
    -- the product is made only once the tail has been read and not given up
    ∷ row (Four ∷ Billion ∷ []) (number 4000000000 2)
    ∷ row (Five ∷ Billion ∷ []) (Err overflow)
    ∷ row (Five ∷ Billion ∷ And ∷ []) (number 5 1)
    -- an overflow in the number that begins again stops the reading
    ∷ row (One ∷ Thousand ∷ And ∷ Five ∷ Billion ∷ []) (Err overflow)
    ∷ []

-- the endings of the second reading: any behind a literal, and behind a word those of the first
unfoldable pub endings : List Case
endings =
    row (Num 1 4 ∷ RD ∷ []) (written 4 1 2)
    ∷ row (Num 2 12 ∷ ST ∷ []) (written 12 2 2)
    ∷ row (Num 2 12 ∷ TH ∷ []) (written 12 2 2)
    ∷ row (Num 2 24 ∷ TH ∷ []) (written 24 2 2)
    ∷ row (Num 3 100 ∷ TH ∷ []) (written 100 3 2)
    ∷ row (Num 4 1000 ∷ TH ∷ []) (written 1000 4 2)
    ∷ row (Num 4 2027 ∷ ND ∷ []) (written 2027 4 2)
    ∷ row (Twenty ∷ RD ∷ []) (number 20 1)
    ∷ row (Twenty ∷ TH ∷ []) (number 20 2)
    ∷ []

-- each row of a table is what `num_of` gives in a reading
abbrev Listed : Reading → List Case → Type 0
Listed reading rows = map (λ c. num_of reading c.lexemes) rows ≡ map (λ c. c.reading) rows

pub read_as_listed : Listed First cases × Listed Second endings
unfolding cases endings get is_at within is_ending word_of literal_of ones_of teens_of tens_of tens_ones_of num_double_of sum_of tail_of hundreds_of
    num_triple_of num_triple_unit_of fits_of units_of num_step turns again num_of
read_as_listed = (refl, refl)

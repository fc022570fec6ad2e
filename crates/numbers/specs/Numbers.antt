-- The number readers of ast.rs, `Ones` to `Num`: the same alternatives in the same order, on a list of lexemes, under either reading.
use Rattle.std.specs.Prelude.{ℕ, ◌+◌, ◌*◌, ◌%◌, Bool, ◌&&◌, ◌||◌, Some, None, Ok, Err, List, eqb, leb, drop}
use Rattle.lexer.specs.Lexemes.{One, Nine, Ten, Nineteen, Twenty, Ninety, Dash, And, Hundred, Thousand, Million, Billion, ST, ND, RD, TH, NUM, value_of, digits_of}
use Rattle.lexer.specs.declared.reading.Reading.{Reading}
use Rattle.lexer.specs.declared.reading.Reading.TheVariants.{First, Second}
use Rattle.numbers.specs.Again.{again}
use Rattle.numbers.specs.Slices.{get, within, is_at, one_if}
use Rattle.numbers.specs.Answers.{MAX, NumberFound, number, written, pick, or_else, and_then, or_zero, fits_of}

-- `ST | RD | ND | TH`
unfoldable pub is_ending : ℕ → Bool
is_ending x = eqb x ST || (eqb x RD || (eqb x ND || eqb x TH))

-- what a number can begin with: a number word, `Hundred` or a unit word (`Thousand`, `Million`, `Billion`), a literal
unfoldable pub begins_number : ℕ → Bool
begins_number x = within One x Ninety || (within Hundred x Billion || leb NUM x)

-- a number word from lo to hi, whose code is its value; `Zero` is none
unfoldable pub word_of : List ℕ → ℕ → ℕ → ℕ → NumberFound
word_of l lo hi tokens = pick (within lo (get l 0) hi) (number (get l 0) tokens) (Ok None)

-- `Num(n)` with lo <= n <= hi, and the digits of its run
unfoldable pub literal_of : List ℕ → ℕ → ℕ → ℕ → NumberFound
literal_of l lo hi tokens =
    let x = get l 0 in
    pick (leb NUM x && within lo (value_of x) hi) (written (value_of x) (digits_of x) tokens) (Ok None)

-- the lexemes of a literal that takes so many in the Rust; in the second reading "every digit number may be followed by any suffix"
abbrev pub literal_tokens : Reading → List ℕ → ℕ → ℕ
literal_tokens First l tokens = tokens
literal_tokens Second l tokens = 1 + one_if (is_ending (get l 1))

-- `Ones::parse`: `One` to `Nine` or a literal below 10, with an ordinal's ending
unfoldable pub ones_of : List ℕ → NumberFound
ones_of l =
    let tokens = 1 + one_if (is_ending (get l 1)) in
    or_else (word_of l One Nine tokens) (literal_of l 0 9 tokens)

-- `Teens::parse`: `Ten` to `Nineteen` or a literal from 10 to 19, with a `TH`
unfoldable pub teens_of : Reading → List ℕ → NumberFound
teens_of reading l =
    let tokens = 1 + one_if (is_at l 1 TH) in
    or_else (word_of l Ten Nineteen tokens) (literal_of l 10 19 (literal_tokens reading l tokens))

-- `Tens::parse`: `Twenty`, `Thirty` .. `Ninety`, with a `TH`; no literal
unfoldable pub tens_of : List ℕ → NumberFound
tens_of l =
    let tokens = 1 + one_if (is_at l 1 TH) in
    and_then (word_of l Twenty Ninety tokens) (λ n. pick (eqb (n.value % 10) 0) (Ok (Some n)) (Ok None))

-- the first alternative of `NumDouble::parse`: tens, a dash that may be missing, ones that may be missing
unfoldable pub tens_ones_of : List ℕ → NumberFound
tens_ones_of l =
    and_then (tens_of l) (λ tens.
    let tokens = tens.taken + one_if (is_at l tens.taken Dash) in
    and_then (or_zero (ones_of (drop tokens l))) (λ ones. number (tens.value + ones.value) (tokens + ones.taken)))

-- `NumDouble::parse`; its own literal, from 20 to 99, has no ending in the Rust
unfoldable pub num_double_of : Reading → List ℕ → NumberFound
num_double_of reading l = or_else (tens_ones_of l) (or_else (teens_of reading l) (or_else (ones_of l) (literal_of l 20 99 (literal_tokens reading l 1))))

-- `if !required || num.is_some()`: only then is the sum made and tested, with `num.unwrap_or((0, 0))`; else the alternative is given up
unfoldable pub sum_of : Bool → ℕ → ℕ → NumberFound → NumberFound
sum_of required head tokens (Ok (Some num)) = fits_of (head + num.value) (tokens + num.taken)
sum_of required head tokens (Ok None) = pick required (Ok None) (fits_of head tokens)
sum_of required head tokens (Err e) = Err e

-- `[[and] <N>]` behind a head of t lexemes: after an `And`, which is taken, N is required
unfoldable pub tail_of : (List ℕ → NumberFound) → List ℕ → ℕ → ℕ → NumberFound
tail_of N l head t =
    let required = is_at l t And in
    let tokens = t + one_if required in
    sum_of required head tokens (N (drop tokens l))

-- `<ones> hundred [[and] <num_double>]`
unfoldable pub hundreds_of : Reading → List ℕ → NumberFound → NumberFound
hundreds_of reading l ones =
    and_then ones (λ ones. pick (is_at l ones.taken Hundred) (tail_of (num_double_of reading) l (ones.value * 100) (ones.taken + 1)) (Ok None))

-- `NumTriple::parse`; a `hundred` with no ones before it is one hundred
unfoldable pub num_triple_of : Reading → List ℕ → NumberFound
num_triple_of reading l =
    or_else (hundreds_of reading l (ones_of l))
    (or_else (hundreds_of reading l (number 1 0))
    (or_else (num_double_of reading l)
    (literal_of l 100 999 (1 + one_if (is_ending (get l 1))))))

-- `NumTripleUnit::parse`
unfoldable pub num_triple_unit_of : List ℕ → NumberFound
num_triple_unit_of l =
    pick (is_at l 0 Thousand) (number 1000 1)
    (pick (is_at l 0 Million) (number 1000000 1)
    (pick (is_at l 0 Billion) (number 1000000000 1)
    (Ok None)))

-- `<num_triple> <num_triple_unit> [[and] <num>]`, with N for the number that begins again. Of `five billion and` nothing is left to read
-- behind the `And`: the product, which would overflow, is not made, and the alternative is given up
unfoldable pub units_of : (List ℕ → NumberFound) → List ℕ → NumberFound → NumberFound
units_of N l triple =
    and_then triple (λ triple.
    and_then (num_triple_unit_of (drop triple.taken l)) (λ unit.
    tail_of N l (triple.value * unit.value) (triple.taken + unit.taken)))

-- `Num::parse`, with N for the number that begins again; a unit with no triple before it counts once
unfoldable pub num_step : Reading → (List ℕ → NumberFound) → List ℕ → NumberFound
num_step reading N l =
    or_else (units_of N l (num_triple_of reading l))
    (or_else (units_of N l (number 1 0))
    (or_else (num_triple_of reading l)
    (literal_of l 1000 MAX (literal_tokens reading l 1))))

-- `Num::parse`, which calls itself behind a unit word (`num_is`: num_of reading l ≡ num_step reading (num_of reading) l)
unfoldable pub num_of : Reading → List ℕ → NumberFound
num_of reading l = again (Ok None) (num_step reading) l

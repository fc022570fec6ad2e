-- Worked examples, computed. Assumes nothing.
use mathlib.Core.Path.{◌≡◌, refl}
use mathlib.Core.List.{List, [], ◌∷◌, map}
use Prim.Native.Nat.{ℕ, ◌+◌, ◌*◌}
use Prim.Native.Char.{code}
use lib.ListN.{replicate}
use Rattle.lexer.specs.Lexemes.{Fifty, Fourty, Five, Eight, In, Day, From, January, March, RD, TH, Dash, Comma, Colon, NUM}
use Rattle.digits.specs.Bytes.{bytes_of}
use Rattle.lexer.specs.Keywords.{keywords, words_in}
use Rattle.lexer.specs.Classes.{class_of, mark_of}
use Rattle.refusals.specs.declared.Reason.TheVariants as refusal
use Rattle.refusals.specs.Answers.{given, refuse}
use Rattle.lexer.specs.Lex.{word_at, number_at, token_at, Item, item, Lexed, lexed, codes_of, front}
use Rattle.lexer.specs.declared.reading.Reading.{Reading}
use Rattle.lexer.specs.declared.reading.Reading.TheVariants.{First, Second}

-- a phrase, and what is read of it in one of the readings
record Example : Type 0 where
  reading : Reading
  phrase : List ℕ
  answer : Lexed

abbrev reads : Reading → List ℕ → Lexed → Example
reads reading s r = record { reading = reading; phrase = s; answer = r }

-- the Rust's `test_complex_relative_date_time`, with capital letters
abbrev mixed : List Item
mixed =
    item Fifty 0 ∷ item Dash 5 ∷ item Five 6 ∷ item Day 11 ∷ item From 16 ∷ item January 21
    ∷ item (NUM * 1 + 1) 29 ∷ item Comma 30 ∷ item (NUM * 4 + 2010) 32 ∷ item (NUM * 1 + 5) 37 ∷ item Colon 38 ∷ item (NUM * 2 + 0) 39 ∷ []

abbrev examples : List Example
examples =
    reads First (bytes_of "Fifty-five days FROM January 1, 2010 5:00") (given mixed) ∷
    -- a word that is no keyword, and a byte with no meaning
    reads First (bytes_of "in forty days") (refuse refusal.Unknown 3 8) ∷
    reads First (bytes_of "5 + 5") (refuse refusal.Unknown 2 3) ∷
    -- the largest number is taken, the next one is not
    reads First (bytes_of "04294967295 4294967296") (refuse refusal.LargeDigits 12 22) ∷
    -- leading zeros are digits of the run
    reads First (bytes_of "0005 00") (given (item (NUM * 4 + 5) 0 ∷ item (NUM * 2 + 0) 5 ∷ [])) ∷
    -- 65 lexemes
    reads First (replicate 65 (code ",")) (refuse refusal.TooMany 64 65) ∷
    -- 256 bytes, and 257
    reads First (replicate 256 (code " ")) (given []) ∷
    reads First (replicate 257 (code " ")) (refuse refusal.TooLong 0 0) ∷
    -- an ending: "th" is the Rust's `RD` in the first reading, and `TH` in the second
    reads First (bytes_of "march 24th") (given (item March 0 ∷ item (NUM * 2 + 24) 6 ∷ item RD 8 ∷ [])) ∷
    reads Second (bytes_of "march 24th") (given (item March 0 ∷ item (NUM * 2 + 24) 6 ∷ item TH 8 ∷ [])) ∷
    -- the usual spellings are words of the second only
    reads Second (bytes_of "in forty days") (given (item In 0 ∷ item Fourty 3 ∷ item Day 9 ∷ [])) ∷
    reads First (bytes_of "fortieth") (refuse refusal.Unknown 0 8) ∷
    reads Second (bytes_of "fortieth") (given (item Fourty 0 ∷ [])) ∷
    reads First (bytes_of "4 eighth") (refuse refusal.Unknown 2 8) ∷
    reads Second (bytes_of "4 eighth") (given (item (NUM * 1 + 4) 0 ∷ item Eight 2 ∷ [])) ∷
    -- the Rust's are words of both
    reads First (bytes_of "fourty fourtieth eigth") (given (item Fourty 0 ∷ item Fourty 7 ∷ item Eight 17 ∷ [])) ∷
    reads Second (bytes_of "fourty fourtieth eigth") (given (item Fourty 0 ∷ item Fourty 7 ∷ item Eight 17 ∷ [])) ∷
    -- a word of neither is refused in the second too
    reads Second (bytes_of "in fourtyth days") (refuse refusal.Unknown 3 11) ∷
    []

-- they are read so
examples_hold : map (λ (x : Example). lexed (words_in x.reading) x.phrase) examples ≡ map (λ (x : Example). x.answer) examples
unfolding lexed token_at word_at number_at class_of mark_of keywords words_in
examples_hold = refl

-- 64 lexemes are taken in front of the 65th, in either reading
most_lexemes : (reading : Reading) → codes_of (front (words_in reading) (replicate 65 (code ","))) ≡ replicate 64 Comma
unfolding front token_at word_at number_at class_of mark_of
most_lexemes reading = refl

-- A phrase read whole: refusals 1 to 7 in their order, or the tree.
use Rattle.std.specs.Prelude.{ℕ, cond, Result, Ok, Err, List, ltb, length, get_or}
use Rattle.refusals.specs.declared.Reason.TheVariants as table
use Rattle.refusals.specs.Answers.{Answer, given, refused, refuse, and_then}
use Rattle.refusals.specs.declared.Refusal.{Refusal}
use Rattle.lexer.specs.Words.{Word}
use Rattle.lexer.specs.Lex.{Item, lexed, codes_of, starts_of}
use Rattle.lexer.specs.declared.reading.Reading.{Reading}
use Rattle.dates.specs.Parsed.{Parsed, is, nothing, overflow}
use Rattle.phrase.specs.Tree.{DateTime}
use Rattle.phrase.specs.DateTimes.{date_time_of}
use Rattle.phrase.specs.Chains.{chain_of}
use Rattle.phrase.specs.declared.read.PhraseRead.{PhraseRead}

-- what is read of a phrase: the tree, and the lexemes taken
pub record TreeRead : Type 0 where
  pub tree : DateTime
  pub taken : ℕ

-- a reading, or a refusal of 1 to 7
abbrev pub ReadPhrase : Type 0
ReadPhrase = Answer TreeRead

-- a tree that takes t lexemes
abbrev pub reads : DateTime → ℕ → ReadPhrase
reads x t = given (record { tree = x; taken = t })

-- nothing is 5 and an overflow 6, with place 0 and no part; 7 has the place of the first of the count lexemes that is left, and its part
-- goes on to the end at n
abbrev pub read_codes : Parsed DateTime → ℕ → List ℕ → ℕ → ReadPhrase
read_codes (is x t) count starts n = cond (ltb t count) (refuse table.LeftOver (get_or starts t 0) n) (reads x t)
read_codes nothing count starts n = refuse table.Nothing 0 0
read_codes overflow count starts n = refuse table.LargeSum 0 0

-- the lexemes of a phrase of n bytes
abbrev pub read_items : Reading → ℕ → List Item → ReadPhrase
read_items reading n items = read_codes (date_time_of reading (codes_of items)) (length items) (starts_of items) n

-- a phrase in one of the readings, with the words of a list: 1 to 4 are the lexer's
unfoldable pub read_of : Reading → List Word → List ℕ → ReadPhrase
read_of reading ws s = and_then (lexed ws s) (read_items reading (length s))

-- the code's answer: the chain of what is read and the lexemes taken, or the refusal
abbrev pub phrase_answer : ReadPhrase → Result PhraseRead Refusal
phrase_answer (given x) = Ok (record { chain = chain_of x.tree; taken = x.taken })
phrase_answer (refused r) = Err r

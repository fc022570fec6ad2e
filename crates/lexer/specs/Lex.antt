-- How a phrase is cut into lexemes. Assumes nothing.
use Rattle.std.specs.Prelude.{ℕ, suc, zero, ◌+◌, ◌*◌, ◌-◌, ◌≤◌, min, Bool, false, cond, List, [], ◌∷◌, ◌++◌, map, ltb, leb, length, get_or, drop}
use Rattle.std.specs.Prelude.{Option, Some, None, Result, Ok, Err, MatchResult}
use Rattle.digits.specs.Digits.{is_digit, value_from}
use Rattle.lexer.specs.Lexemes.{NUM}
use Rattle.lexer.specs.Words.{Word, meaning, folded}
use Rattle.lexer.specs.Table.{fixed, bytes_from, head_of, tail_of}
use Rattle.lexer.specs.Classes.{Gap, Letter, Digit, Mark, Stray, letter_of, class_of, mark_of, same_class}
use Rattle.refusals.specs.declared.Reason.TheVariants as refusal
use Rattle.refusals.specs.Answers.{Answer, given, refused, refusal_at, refuse, and_then, between}
use Rattle.refusals.specs.declared.Refusal.{Refusal}
use Rattle.lexer.specs.declared.class.Class.{Class}
use Rattle.lexer.specs.declared.lex.Token.{Token}
use Rattle.lexer.specs.declared.word.Block.{Block}
use Rattle.lexer.specs.declared.word.Key.{Key}

-- how many bytes at the front are of class k
abbrev pub run : Class → List ℕ → ℕ
run k [] = 0
run k (b ∷ bs) = cond (same_class (class_of b) k) (suc (run k bs)) 0

-- where the run of bytes of class k ends that begins at a
abbrev pub run_end : Class → List ℕ → ℕ → ℕ
run_end k s a = a + run k (drop a s)

-- a lexeme of code k from a to e
abbrev pub token : ℕ → ℕ → ℕ → Token
token k a e = record { code = k; start = a; end = e }

-- a word or mark from a to e by its code
abbrev pub of_code : Option ℕ → ℕ → ℕ → Result Token Refusal
of_code (Some l) a e = Ok (token l a e)
of_code None a e = Err (refusal_at refusal.Unknown a e)

-- how many digits a literal says of a run of n: a phrase that is read has no run of more than 256
abbrev pub said_digits : ℕ → ℕ
said_digits n = min n 256

-- `stack.parse::<u32>()`: a number from a to e by its value, however long it is, and the digits that it was written with
abbrev pub of_number : ℕ → ℕ → ℕ → Result Token Refusal
of_number v a e = cond (leb v 4294967295) (Ok (token (NUM * said_digits (e - a) + v) a e)) (Err (refusal_at refusal.LargeDigits a e))

-- "a run of letters is one word": the one that begins at a, as it is looked up
abbrev pub word_from : List ℕ → ℕ → List ℕ
word_from s a = folded (between s a (run_end Letter s a))

-- its lexeme, or "a word that is no keyword"
unfoldable pub word_at : List Word → List ℕ → ℕ → Result Token Refusal
word_at ws s a = of_code (meaning ws (word_from s a)) a (run_end Letter s a)

-- the small letter at a place, if one stands there
abbrev pub letter_at : List ℕ → ℕ → Option ℕ
letter_at s a = cond (ltb a (length s)) (letter_of (get_or s a 0)) None

-- the letters from a on, n of them at most, as the first n bytes of a word, and where they end
abbrev pub block_of : ℕ → List ℕ → ℕ → Block
block_of n s a = record { number = bytes_from 0 (fixed n (word_from s a)); end = a + min n (run Letter (drop a s)) }

-- the word that begins at a as two numbers, and where it ends
abbrev pub key_of : List ℕ → ℕ → Key
key_of s a = record { head = head_of (word_from s a); tail = tail_of (word_from s a); end = run_end Letter s a }

-- whether a digit stands at a place
abbrev pub is_digit_at : List ℕ → ℕ → Bool
is_digit_at s a = cond (ltb a (length s)) (is_digit (get_or s a 0)) false

-- the number that the run of digits says that begins at a
abbrev pub number_from : List ℕ → ℕ → ℕ
number_from s a = value_from 0 (between s a (run_end Digit s a))

-- "a run of digits one number"
unfoldable pub number_at : List ℕ → ℕ → Result Token Refusal
number_at s a = of_number (number_from s a) a (run_end Digit s a)

-- what begins at a with a byte of a class: a word, a number, a mark, or "any other byte is refusal 2"
abbrev pub token_of : List Word → Class → List ℕ → ℕ → Result Token Refusal
token_of ws Letter s a = word_at ws s a
token_of ws Digit s a = number_at s a
token_of ws Mark s a = of_code (mark_of (get_or s a 0)) a (a + 1)
token_of ws Gap s a = of_code None a (a + 1)
token_of ws Stray s a = of_code None a (a + 1)

-- a lexeme that is found, or the refusal
abbrev pub found : Result Token Refusal → Result (Option Token) Refusal
found (Ok t) = Ok (Some t)
found (Err r) = Err r

-- what begins at a, or the end of the phrase
abbrev pub token_from : List Word → List ℕ → ℕ → Result (Option Token) Refusal
token_from ws s a = cond (ltb a (length s)) (found (token_of ws (class_of (get_or s a 0)) s a)) (Ok None)

-- the first lexeme at or after a place, past any gaps
unfoldable pub token_at : List Word → List ℕ → ℕ → Result (Option Token) Refusal
token_at ws s at = token_from ws s (run_end Gap s at)

-- a lexeme's code, and the place of its first byte
pub record Item : Type 0 where
  pub code : ℕ
  pub start : ℕ

-- all the lexemes, or a refusal
abbrev pub Lexed : Type 0
Lexed = Answer (List Item)

-- a lexeme of code k whose first byte stands at a
abbrev pub item : ℕ → ℕ → Item
item k a = record { code = k; start = a }

-- lexemes in front of what follows them
abbrev pub ahead : List Item → Lexed → Lexed
ahead l w = and_then w (λ m. given (l ++ m))

-- the end ends the phrase, a refusal is the answer, and a lexeme is handed on
abbrev pub if_taken : Result (Option Token) Refusal → (ℕ → ℕ → ℕ → Lexed) → Lexed
if_taken (Ok None) g = given []
if_taken (Err r) g = refused r
if_taken (Ok (Some t)) g = g t.code t.start t.end

-- the lexemes from a place on, left to right, with room for so many: a word or number is judged before it is counted
abbrev pub lex_from : List Word → ℕ → List ℕ → ℕ → Lexed
lex_from ws zero s at = if_taken (token_at ws s at) (λ k a e. refuse refusal.TooMany a e)
lex_from ws (suc room) s at = if_taken (token_at ws s at) (λ k a e. ahead (item k a ∷ []) (lex_from ws room s e))

-- `lex_line`: a phrase of at most 256 bytes and 64 lexemes
unfoldable pub lexed : List Word → List ℕ → Lexed
lexed ws s = cond (leb (length s) 256) (lex_from ws 64 s 0) (refuse refusal.TooLong 0 0)

-- a lexeme is handed on; neither the end nor a refusal has lexemes behind it
abbrev pub if_lexeme : Result (Option Token) Refusal → (ℕ → ℕ → ℕ → List Item) → List Item
if_lexeme (Ok None) g = []
if_lexeme (Err r) g = []
if_lexeme (Ok (Some t)) g = g t.code t.start t.end

-- the lexemes from a place on, in front of the end or the first refusal, with room for so many
abbrev pub front_from : List Word → ℕ → List ℕ → ℕ → List Item
front_from ws zero s at = []
front_from ws (suc room) s at = if_lexeme (token_at ws s at) (λ k a e. item k a ∷ front_from ws room s e)

-- a phrase's lexemes in front of its end or its first refusal; a phrase that is too long is not begun
unfoldable pub front : List Word → List ℕ → List Item
front ws s = cond (leb (length s) 256) (front_from ws 64 s 0) []

-- the lexemes' codes: what readers take
abbrev pub codes_of : List Item → List ℕ
codes_of l = map (λ (i : Item). i.code) l

-- the lexemes' places
abbrev pub starts_of : List Item → List ℕ
starts_of l = map (λ (i : Item). i.start) l

-- how lexing ends: with so many lexemes, or with the refusal
abbrev pub ended_of : Lexed → Result ℕ Refusal
ended_of (given l) = Ok (length l)
ended_of (refused r) = Err r

-- where an answer stands in a phrase of n bytes: what callers need of it to cut the phrase and the arrays
abbrev pub Placed : ℕ → Result ℕ Refusal → Type 0
Placed n w = MatchResult w (λ count. count ≤ 64) (λ (r : Refusal). (r.place ≤ r.end) × (r.end ≤ n))

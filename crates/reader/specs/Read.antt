-- "A reader that holds the phrase and its place", in one of the readings: the lexer's definitions through it. Assumes nothing.
use Rattle.std.specs.Prelude.{ℕ, zero, suc, min, List, [], ◌∷◌, length}
use Rattle.std.specs.Borrow.{Bor}
use Rattle.lexer.specs.Keywords.{words_in}
use Rattle.std.specs.Prelude.{Option, Some, None, Result, Ok, Err}
use Rattle.refusals.specs.declared.Reason.TheVariants as refusal
use Rattle.refusals.specs.declared.Refusal.{Refusal}
use Rattle.refusals.specs.Answers.{refuse}
use Rattle.lexer.specs.Lex.{token_at, Lexed, item, ahead, if_taken}
use Rattle.lexer.specs.declared.lex.Token.{Token}
use Rattle.lexer.specs.declared.reading.Reading.{Reading}
use Rattle.reader.specs.declared.Lexer.{Lexer}

-- the borrow goes into the reader, which stands at the start
abbrev pub new_of : Reading → Bor (List ℕ) → Lexer
new_of reading s = record { reading = reading; phrase = s; at = 0 }

-- its next lexeme: what the lexer finds at its place
abbrev pub next_of : Lexer → Result (Option Token) Refusal
next_of r = token_at (words_in r.reading) r.phrase.now r.at

-- the place behind a lexeme or a refusal: its end; at the end of the phrase the place stays
abbrev pub place_behind : ℕ → Result (Option Token) Refusal → ℕ
place_behind at (Ok None) = at
place_behind at (Ok (Some t)) = t.end
place_behind at (Err r) = r.end

-- the reader behind it: the same reading and borrow, and the place behind it
abbrev pub behind_of : Lexer → Result (Option Token) Refusal → Lexer
behind_of r t = record { reading = r.reading; phrase = r.phrase; at = place_behind r.at t }

-- "the unread rest" begins at the reader's place; past the last byte there is none
abbrev pub rest_start : Lexer → ℕ
rest_start r = min r.at (length r.phrase.now)

-- lexemes taken one after the other until the end, with room for so many lexemes: "a word or number is judged before it is counted"
abbrev pub taken : ℕ → Lexer → Lexed
taken zero r = if_taken (next_of r) (λ k a e. refuse refusal.TooMany a e)
taken (suc room) r = if_taken (next_of r) (λ k a e. ahead (item k a ∷ []) (taken room (behind_of r (next_of r))))

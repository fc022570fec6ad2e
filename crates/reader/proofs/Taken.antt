-- Tokens taken one after the other from a new reader are what lexing reads. Assumes nothing.
use mathlib.Core.Path.{◌≡◌, refl, ap, sym, ◌∙◌}
use mathlib.Core.Bool.{cond}
use mathlib.Core.List.{List, [], ◌∷◌}
use Prim.Native.Nat.{ℕ, zero, suc}
use lib.Dec.{leb}
use lib.ListN.{length}
use denote.Ref.{Bor}
use Rattle.lexer.specs.Keywords.{words_in}
use Rattle.std.specs.Prelude.{Option, Some, None, Result, Ok, Err}
use Rattle.refusals.specs.declared.Reason.TheVariants as refusal
use Rattle.refusals.specs.declared.Refusal.{Refusal}
use Rattle.refusals.specs.Answers.{refuse}
use Rattle.lexer.specs.Lex.{Lexed, item, ahead, if_taken, lex_from, lexed}
use Rattle.lexer.specs.declared.lex.Token.{Token}
use Rattle.lexer.specs.declared.reading.Reading.{Reading}
use Rattle.reader.specs.declared.Lexer.{Lexer}
use Rattle.reader.specs.Read.{new_of, next_of, place_behind, behind_of, taken}

-- what follows a lexeme is all that can differ
same_behind : (w : Result (Option Token) Refusal) (g h : ℕ → ℕ → ℕ → Lexed) → ((t : Token) → w ≡ Ok (Some t) → g t.code t.start t.end ≡ h t.code t.start t.end)
    → if_taken w g ≡ if_taken w h
same_behind (Ok None) g h same = refl
same_behind (Err r) g h same = refl
same_behind (Ok (Some t)) g h same = same t refl

-- from any reader, with any room
pub taken_from : (room : ℕ) (r : Lexer) → taken room r ≡ lex_from (words_in r.reading) room r.phrase.now r.at
taken_from zero r = refl
taken_from (suc room) r =
    let ws = words_in r.reading in
    let s = r.phrase.now in
    let t = next_of r in
    same_behind t (λ k a e. ahead (item k a ∷ []) (taken room (behind_of r t))) (λ k a e. ahead (item k a ∷ []) (lex_from ws room s e))
    (λ u q. ap (ahead (item u.code u.start ∷ [])) (taken_from room (behind_of r t) ∙ ap (λ (x : Result (Option Token) Refusal). lex_from ws room s (place_behind r.at x)) q))

-- tokens taken one after the other from a new reader until the end, with room for 64 lexemes, behind the test for 256 bytes: exactly lexing's lexemes
-- and their places, or its refusal
pub lexed_is : (reading : Reading) (s : Bor (List ℕ))
    → lexed (words_in reading) s.now ≡ cond (leb (length s.now) 256) (taken 64 (new_of reading s)) (refuse refusal.TooLong 0 0)
unfolding lexed
lexed_is reading s = ap (λ (x : Lexed). cond (leb (length s.now) 256) x (refuse refusal.TooLong 0 0)) (sym (taken_from 64 (new_of reading s)))

-- The lexemes of a phrase, one after the other, and the arrays that they are stored in. Assumes nothing.
use mathlib.Core.Path.{◌≡◌, refl, sym, ap, ◌∙◌}
use mathlib.Core.Bool.{Bool, true, false, cond}
use mathlib.Core.List.{List, [], ◌∷◌, ◌++◌, map, append-nil, append_assoc, map-append}
use Prim.Native.Nat.{ℕ, zero, suc, ◌+◌, ◌-◌, ◌≤◌, ◌<◌}
use native.Mathlib.Nat.{zero-add}
use native.Mathlib.Omega.{arith}
use lib.Dec.{leb}
use lib.ListN.{length, set, length-map, length-append}
use lib.Seq.{sets}
use Rattle.digits.proofs.Stores.{sets-append}
use Rattle.std.specs.Prelude.{Option, Some, None, Result, Ok, Err}
use Rattle.lexer.specs.Words.{Word}
use Rattle.refusals.specs.declared.Reason.TheVariants as refusal
use Rattle.refusals.specs.Answers.{given, refused, refusal_at, refuse}
use Rattle.refusals.specs.declared.Refusal.{Refusal}
use Rattle.refusals.proofs.Holds.{Holds, of_given, of_refusal, given_holds, then_holds}
use Rattle.lexer.specs.Lex.{token, token_at, Item, item, Lexed, ahead, if_taken, lex_from, lexed, if_lexeme, front_from, front, codes_of, starts_of, ended_of}
use Rattle.lexer.specs.declared.lex.Token.{Token}

-- what is read from a place on, and the lexemes in front, by the token there
module _ (ws : List Word) (s : List ℕ) (at : ℕ) where
  pub lex_finish : (room : ℕ) → token_at ws s at ≡ Ok None → (lex_from ws room s at ≡ given []) × (front_from ws room s at ≡ [])
  lex_finish zero h = (rw h, refl)
  lex_finish (suc room) h = (rw h, rw h)

  lex_refused : (room : ℕ) (r : Refusal) → token_at ws s at ≡ Err r
      → (lex_from ws room s at ≡ refused r) × (front_from ws room s at ≡ [])
  lex_refused zero r h = (rw h, refl)
  lex_refused (suc room) r h = (rw h, rw h)

  lex_full : (room k a e : ℕ) → room ≡ 0 → token_at ws s at ≡ Ok (Some (token k a e))
      → (lex_from ws room s at ≡ refuse refusal.TooMany a e) × (front_from ws room s at ≡ [])
  lex_full room k a e z h = (rw (z, h), rw z)

  pub lex_taken : (room left k a e : ℕ) → room ≡ suc left → token_at ws s at ≡ Ok (Some (token k a e))
      → (lex_from ws room s at ≡ ahead (item k a ∷ []) (lex_from ws left s e))
      × (front_from ws room s at ≡ item k a ∷ front_from ws left s e)
  lex_taken room left k a e z h = (rw (z, h), rw (z, h))

pub ahead_none : (r : Lexed) → ahead [] r ≡ r
ahead_none (given l) = refl
ahead_none (refused r) = refl

ahead_more : (l m : List Item) (r : Lexed) → ahead l (ahead m r) ≡ ahead (l ++ m) r
ahead_more l m (given k) = ap given (sym (append_assoc l m k))
ahead_more l m (refused r) = refl

-- the lexemes in front of the end are all of them
abbrev Leads : Lexed → List Item → Type 0
Leads w m = Holds (λ l. m ≡ l) (λ r. Unit {0}) w

leads_token : (t : Result (Option Token) Refusal) (g : ℕ → ℕ → ℕ → Lexed) (f : ℕ → ℕ → ℕ → List Item)
    → ((k a e : ℕ) → Leads (g k a e) (f k a e)) → Leads (if_taken t g) (if_lexeme t f)
leads_token (Ok None) g f h = of_given refl
leads_token (Err r) g f h = of_refusal tt
leads_token (Ok (Some t)) g f h = h t.code t.start t.end

full : (t : Result (Option Token) Refusal) → Leads (if_taken t (λ k a e. refuse refusal.TooMany a e)) []
full (Ok None) = of_given refl
full (Err r) = of_refusal tt
full (Ok (Some t)) = of_refusal tt

leads_from : (ws : List Word) (room : ℕ) (s : List ℕ) (at : ℕ) → Leads (lex_from ws room s at) (front_from ws room s at)
leads_from ws zero s at = full (token_at ws s at)
leads_from ws (suc room) s at =
    leads_token (token_at ws s at) (λ k a e. ahead (item k a ∷ []) (lex_from ws room s e)) (λ k a e. item k a ∷ front_from ws room s e)
    (λ k a e. then_holds _ (leads_from ws room s e) (λ l h. of_given (ap (◌∷◌ (item k a)) h)))

leads : (ws : List Word) (s : List ℕ) → Leads (lexed ws s) (front ws s)
unfolding lexed front
leads ws s = go (leb (length s) 256)
  where
    go : (b : Bool) → Leads (cond b (lex_from ws 64 s 0) (refuse refusal.TooLong 0 0)) (cond b (front_from ws 64 s 0) [])
    go true = leads_from ws 64 s 0
    go false = of_refusal tt

-- where nothing is refused, the lexemes in front are all lexemes
pub front_whole : (ws : List Word) (s : List ℕ) (l : List Item) → lexed ws s ≡ given l → front ws s ≡ l
front_whole ws s l e = given_holds (leads ws s) e

-- a field of each lexeme is stored, and then that of one lexeme more
array_more : (f : Item → ℕ) (l : List Item) (i : Item) (n : ℕ) (a : List ℕ) {b : List ℕ} → length l ≡ n → b ≡ sets a 0 (map f l)
    → set b n (f i) ≡ sets a 0 (map f (l ++ (i ∷ [])))
array_more f l i n a e q =
    rw (q, map-append, sets-append, length-map l f, e) (ap (λ (k : ℕ). set (sets a 0 (map f l)) k (f i)) (sym (zero-add n)))

-- the phrase s is read up to `at` by the words ws: n lexemes, `done`, are stored in the arrays
pub record Read (ws : List Word) (s codes₀ starts₀ codes starts : List ℕ) (n at : ℕ) : Type 0 where
  pub done : List Item
  pub count : length done ≡ n
  pub room : n ≤ 64
  pub codes_are : codes ≡ sets codes₀ 0 (codes_of done)
  pub starts_are : starts ≡ sets starts₀ 0 (starts_of done)
  pub read : lex_from ws 64 s 0 ≡ ahead done (lex_from ws (64 - n) s at)
  pub ahead_of : front_from ws 64 s 0 ≡ done ++ front_from ws (64 - n) s at

-- nothing is read yet
pub read_begins : (ws : List Word) (s codes₀ starts₀ : List ℕ) → Read ws s codes₀ starts₀ codes₀ starts₀ 0 0
read_begins ws s codes₀ starts₀ =
    record {
      done = [];
      count = refl;
      room = omega arith;
      codes_are = refl;
      starts_are = refl;
      read = sym (ahead_none (lex_from ws 64 s 0));
      ahead_of = refl;
    }

-- what is answered to a phrase of no more than 256 bytes, and the arrays that are left
pub record Settled (ws : List Word) (s codes₀ starts₀ codes starts : List ℕ) (r : Result ℕ Refusal) : Type 0 where
  pub value : r ≡ ended_of (lex_from ws 64 s 0)
  pub codes_are : codes ≡ sets codes₀ 0 (codes_of (front_from ws 64 s 0))
  pub starts_are : starts ≡ sets starts₀ 0 (starts_of (front_from ws 64 s 0))

module _ (ws : List Word) (s codes₀ starts₀ : List ℕ) {codes starts : List ℕ} {n at : ℕ} (h : Read ws s codes₀ starts₀ codes starts n at) where
  -- one lexeme more
  pub read_more : (t : Token) → n < 64 → token_at ws s at ≡ Ok (Some t)
      → Read ws s codes₀ starts₀ (set codes n t.code) (set starts n t.start) (n + 1) t.end
  read_more t few e =
      let i = item t.code t.start in
      let next = lex_taken ws s at (64 - n) (64 - (n + 1)) t.code t.start t.end (omega arith) e in
      record {
        done = h.done ++ (i ∷ []);
        count = simp length-append (omega (arith, h.count));
        room = omega arith;
        codes_are = array_more (λ (i : Item). i.code) h.done i n codes₀ h.count h.codes_are;
        starts_are = array_more (λ (i : Item). i.start) h.done i n starts₀ h.count h.starts_are;
        read = h.read ∙ ap (ahead h.done) next.0 ∙ ahead_more h.done (i ∷ []) (lex_from ws (64 - (n + 1)) s t.end);
        ahead_of = h.ahead_of ∙ ap (◌++◌ h.done) next.1 ∙ sym (append_assoc h.done (i ∷ []) (front_from ws (64 - (n + 1)) s t.end));
      }

  -- no lexeme follows those that were read: the answer is settled, and so are the arrays
  settled : {w : Lexed} {r : Result ℕ Refusal} → (lex_from ws (64 - n) s at ≡ w) × (front_from ws (64 - n) s at ≡ []) → r ≡ ended_of (ahead h.done w)
      → Settled ws s codes₀ starts₀ codes starts r
  settled (e, none) a =
      let all : front_from ws 64 s 0 ≡ h.done = h.ahead_of ∙ ap (◌++◌ h.done) none ∙ append-nil h.done in
      record { value = a ∙ ap ended_of (sym (h.read ∙ ap (ahead h.done) e)); codes_are = rw all h.codes_are; starts_are = rw all h.starts_are }

  -- at the end of the phrase, at a refusal, and at a lexeme for which there is no room
  pub settled_end : token_at ws s at ≡ Ok None → Settled ws s codes₀ starts₀ codes starts (Ok n)
  settled_end e = settled (lex_finish ws s at (64 - n) e) (rw (append-nil h.done, h.count) refl)

  pub settled_refused : (r : Refusal) → token_at ws s at ≡ Err r → Settled ws s codes₀ starts₀ codes starts (Err r)
  settled_refused r e = settled (lex_refused ws s at (64 - n) r e) refl

  pub settled_full : (t : Token) → n ≡ 64 → token_at ws s at ≡ Ok (Some t)
      → Settled ws s codes₀ starts₀ codes starts (Err (refusal_at refusal.TooMany t.start t.end))
  settled_full t full e = settled (lex_full ws s at (64 - n) t.code t.start t.end (omega arith) e) refl

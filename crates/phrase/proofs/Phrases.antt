-- A phrase read whole: what reading takes of lexing, where the offending part stands, and what a reading stands for.
use Prim.Native.Nat.{ℕ, ◌≤◌, min}
use native.Mathlib.Omega.{arith}
use mathlib.Core.Path.{◌≡◌, refl, sym, ◌∙◌}
use mathlib.Core.Bool.{Bool, true, false, cond}
use mathlib.Core.List.{List}
use lib.Dec.{ltb}
use lib.ListN.{length, get_or, take, replicate, length-map}
use lib.Seq.{sets}
use borrow.Author.Tests.{ltb-true, ltb-false}
use Rattle.refusals.specs.declared.Reason.TheVariants as table
use Rattle.refusals.specs.Answers.{given, refused, refusal_at, refuse, and_then}
use Rattle.refusals.proofs.Holds.{Holds, of_given, of_refusal, Bounded}
use Rattle.lexer.specs.Keywords.{words_in}
use Rattle.lexer.specs.Lex.{Item, Lexed, lexed, front, codes_of, starts_of, ended_of}
use Rattle.refusals.specs.declared.Refusal.{Refusal}
use Rattle.std.specs.Prelude.{Option, Some, None, Result, Ok, Err}
use Rattle.numbers.specs.declared.Overflow.{Overflow}
use Rattle.lexer.specs.declared.reading.Reading.{Reading}
use Rattle.digits.proofs.Stores.{sets-taken, sets-at}
use Rattle.lexer.proofs.Lines.{front_whole}
use Rattle.lexer.proofs.Places.{start_below, Whole, lexed_holds}
use Rattle.dates.specs.Parsed.{Parsed, is, nothing, overflow}
use Rattle.phrase.specs.Tree.{DateTime, now}
use Rattle.phrase.specs.DateTimes.{date_time_of}
use Rattle.phrase.specs.Chains.{chain_of, tree_of, size_tree}
use Rattle.phrase.specs.Formed.{Formed}
use Rattle.phrase.specs.Outlines.{kept, gathered}
use Rattle.phrase.specs.Read.{TreeRead, ReadPhrase, reads, read_codes, read_items, read_of, phrase_answer}
use Rattle.phrase.specs.declared.gather.Gathered.{Gathered}
use Rattle.phrase.specs.declared.read.PhraseRead.{PhraseRead}
use Rattle.phrase.proofs.Stands.{date_time_holds}
use Rattle.phrase.proofs.Decoded.{decoded}
use Rattle.phrase.proofs.Formed.{formed}

-- the code's answer, by what is gathered of so many lexemes
abbrev pub judged : Result (Option Gathered) Overflow → ℕ → List ℕ → ℕ → Result PhraseRead Refusal
judged (Ok (Some g)) count starts n =
    cond (ltb g.taken count) (Err (refusal_at table.LeftOver (get_or starts g.taken 0) n)) (Ok (record { chain = g.chain; taken = g.taken }))
judged (Ok None) count starts n = Err (refusal_at table.Nothing 0 0)
judged (Err o) count starts n = Err (refusal_at table.LargeSum 0 0)

-- of lexemes whose places are stored in front of an array, read as w
codes_answer : (items : List Item) (a : List ℕ) → length items ≤ length a → (n : ℕ) (w : Parsed DateTime) →
    judged (gathered (kept (length items) w)) (length items) (sets a 0 (starts_of items)) n
    ≡ phrase_answer (read_codes w (length items) (starts_of items) n)
codes_answer items a h n (is x t) = go (ltb t (length items)) refl
  where
    go : (b : Bool) → ltb t (length items) ≡ b →
        cond b (Err (refusal_at table.LeftOver (get_or (sets a 0 (starts_of items)) t 0) n)) (Ok (record { chain = chain_of (cond b now x); taken = t }))
        ≡ phrase_answer (cond b (refuse table.LeftOver (get_or (starts_of items) t 0) n) (reads x t))
    go true e =
        let below = ltb-true t (length items) e in
        let same = length-map items (λ (i : Item). i.start) in
        rw (sets-at (starts_of items) a (omega arith) t (omega arith))
    go false e = refl
codes_answer items a h n nothing = refl
codes_answer items a h n overflow = refl

-- the same by what lexing and gathering say
module _ (reading : Reading) (s : List ℕ) where
  -- where lexing refuses, so does reading
  pub lexing_refused : {r : Refusal} → Err r ≡ ended_of (lexed (words_in reading) s) → Err r ≡ phrase_answer (read_of reading (words_in reading) s)
  unfolding read_of
  lexing_refused {r} e = go (lexed (words_in reading) s) e
    where
      go : (w : Lexed) → Err r ≡ ended_of w → Err r ≡ phrase_answer (and_then w (read_items reading (length s)))
      go (given items) e = cc
      go (refused q) e = let same : r ≡ q = cc in rw same

  pub read_answered : {n : ℕ} {codes starts : List ℕ} {z : Result (Option Gathered) Overflow} → Ok n ≡ ended_of (lexed (words_in reading) s) →
      codes ≡ sets (replicate 64 0) 0 (codes_of (front (words_in reading) s)) → starts ≡ sets (replicate 64 0) 0 (starts_of (front (words_in reading) s)) →
      z ≡ gathered (kept n (date_time_of reading (take n codes))) → judged z n starts (length s) ≡ phrase_answer (read_of reading (words_in reading) s)
  unfolding read_of
  read_answered {n} {codes} {starts} {z} e f g h = go refl (lexed_holds (words_in reading) s) e
    where
      go : {w : Lexed} → lexed (words_in reading) s ≡ w → Holds (Whole s) (Bounded 1 4 (min (length s) 256)) w → Ok n ≡ ended_of w →
          judged z n starts (length s) ≡ phrase_answer (and_then w (read_items reading (length s)))
      go same (of_given {x = items} whole) e =
          let count : n ≡ length items = cc in
          let codes = length-map items (λ (i : Item). i.code) in
          rw (
            h,
            f,
            g,
            count,
            front_whole (words_in reading) s items same,
            sets-taken (codes_of items) (replicate 64 0) (omega arith) (length items) codes,
          ) (codes_answer items (replicate 64 0) whole.lexemes (length s) (date_time_of reading (codes_of items)))
      go same (of_refusal bounds) e = cc

-- a phrase that is read: its lexemes, all of them taken, and the tree that `DateTime::parse` gives, of at most 21 parts
pub record ReadWhole (reading : Reading) (s : List ℕ) (x : TreeRead) : Type 0 where
  pub items : List Item
  pub lexemes : lexed (words_in reading) s ≡ given items
  pub parsed : date_time_of reading (codes_of items) ≡ is x.tree x.taken
  pub all : x.taken ≡ length items
  pub few : size_tree x.tree ≤ 21

-- what is read is read whole, and a phrase is refused by 1 to 7, with a part within the phrase and the 256 bytes that it may have
abbrev ReadHolds : Reading → List ℕ → ReadPhrase → Type 0
ReadHolds reading s w = Holds (ReadWhole reading s) (Bounded 1 7 (min (length s) 256)) w

module _ (reading : Reading) (s : List ℕ) (items : List Item) (lexemes : lexed (words_in reading) s ≡ given items) (whole : Whole s items) where
  codes_hold : (w : Parsed DateTime) → date_time_of reading (codes_of items) ≡ w →
      ReadHolds reading s (read_codes w (length items) (starts_of items) (length s))
  codes_hold (is x t) e = go (ltb t (length items)) refl
    where
      go : (b : Bool) → ltb t (length items) ≡ b →
          ReadHolds reading s (cond b (refuse table.LeftOver (get_or (starts_of items) t 0) (length s)) (reads x t))
      go true h =
          let start = rw (front_whole (words_in reading) s items lexemes) at (start_below (words_in reading) s t) in
          let below = start (ltb-true t (length items) h) in
          of_refusal {r = refusal_at table.LeftOver (get_or (starts_of items) t 0) (length s)} (omega arith)
      go false h =
          let same = length-map items (λ (i : Item). i.code) in
          let left = ltb-false t (length items) h in
          let took = (rw e at (date_time_holds reading (codes_of items))).bounds in
          of_given (record { items = items; lexemes = lexemes; parsed = e; all = omega arith; few = omega arith })
  codes_hold nothing e = of_refusal {r = refusal_at table.Nothing 0 0} (omega arith)
  codes_hold overflow e = of_refusal {r = refusal_at table.LargeSum 0 0} (omega arith)

pub read_holds : (reading : Reading) (s : List ℕ) → ReadHolds reading s (read_of reading (words_in reading) s)
unfolding read_of
read_holds reading s = go refl (lexed_holds (words_in reading) s)
  where
    go : {w : Lexed} → lexed (words_in reading) s ≡ w → Holds (Whole s) (Bounded 1 4 (min (length s) 256)) w →
        ReadHolds reading s (and_then w (read_items reading (length s)))
    go h (of_given {x = items} whole) = codes_hold reading s items h whole (date_time_of reading (codes_of items)) refl
    go h (of_refusal {r} bounds) = of_refusal {r = r} (omega arith)

-- what `read` answers: the reading, and a formed chain that stands for its tree
pub record WasRead (reading : Reading) (s : List ℕ) (r : PhraseRead) : Type 0 where
  pub tree_read : TreeRead
  pub is : read_of reading (words_in reading) s ≡ given tree_read
  pub whole : ReadWhole reading s tree_read
  pub taken : r.taken ≡ tree_read.taken
  pub stands : tree_of r.chain ≡ tree_read.tree
  pub formed : Formed r.chain

module _ (reading : Reading) (s : List ℕ) {answer : Result PhraseRead Refusal} (promised : answer ≡ phrase_answer (read_of reading (words_in reading) s)) where
  -- a phrase that `read` does not refuse is read whole
  pub was_read : {r : PhraseRead} → answer ≡ Ok r → WasRead reading s r
  was_read {r} e = go refl (read_holds reading s) (sym e ∙ promised)
    where
      go : {w : ReadPhrase} → read_of reading (words_in reading) s ≡ w → ReadHolds reading s w → Ok r ≡ phrase_answer w → WasRead reading s r
      go same-read (of_given {x} whole) e =
          let same : r ≡ record { chain = chain_of x.tree; taken = x.taken } = cc in
          record {
            tree_read = x;
            is = same-read;
            whole = whole;
            taken = rw same;
            stands = rw same (decoded x.tree whole.few);
            formed = rw same (formed x.tree whole.few);
          }
      go same-read (of_refusal bounds) e = cc

  -- one that it refuses is refused so
  pub was_refused : {r : Refusal} → answer ≡ Err r → read_of reading (words_in reading) s ≡ refused r
  was_refused {r} e = go (read_of reading (words_in reading) s) (sym e ∙ promised)
    where
      go : (w : ReadPhrase) → Err r ≡ phrase_answer w → w ≡ refused r
      go (given x) e = cc
      go (refused q) e = cc

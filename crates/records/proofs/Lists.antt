-- Encoding then decoding gives the steps back, and nothing but what encodes is decoded.
use Prim.Native.Nat.{ℕ, zero, suc, ◌+◌, ◌-◌, ◌*◌, ◌/◌, ◌%◌, ◌^◌, ◌≤◌, ◌<◌}
use native.Mathlib.Omega.{arith}
use Rattle.std.proofs.lemmas.Bool.Decides.{nat_tests}
use native.Mathlib.Numerals.{add-one}
use mathlib.Core.Path.{◌≡◌, refl, ap, sym, ◌∙◌}
use mathlib.Core.Bool.{Bool, true, false, cond, ◌&&◌, and-false, and-eq-true_iff}
use mathlib.Core.List.{List, [], ◌∷◌, ◌++◌}
use borrow.Author.Tests.{le-leb, lt-leb, ne_eqb, eqb-true}
use lib.Dec.{leb, eqb}
use lib.ListN.{length, get_or, drop, length-drop, take-append-drop, drop_of_length-le}
use lib.Seq.{sets, drop-cons, drop-drop, get_or-drop}
use Rattle.digits.proofs.Stores.{sets-append}
use Rattle.steps.specs.Plans.{blank_step}
use Rattle.steps.proofs.Small.{All, none, more}
use Rattle.steps.specs.declared.plan.Step.{Step}
use Rattle.records.specs.Bytes.{low_first}
use Rattle.records.specs.Words.{words, words_of, step_from}
use Rattle.records.specs.Records.{bytes_of_words, encode_of, word_at, words_at, same_words, is_record, are_records, steps_at, decode_of}
use Rattle.records.specs.declared.words.Words.{Words}
use Rattle.records.proofs.Numbers.{AreBytes, back, forth}
use Rattle.records.proofs.Steps.{step_back, small_kind, small_form}
use Rattle.records.proofs.Fitting.{Fits, in_bytes}

-- two records with the same numbers are one
same_words_lem : (v w : Words) → same_words v w ≡ true → v ≡ w
same_words_lem v w h = let e : words v.kind v.form v.a v.b v.c ≡ words w.kind w.form w.a w.b w.c = grind (arith, nat_tests) in e

-- and one has the same numbers as itself
same_self : (w : Words) → same_words w w ≡ true
same_self w = grind (arith, nat_tests)

-- the list behind a place is the list behind one before it, less what lies between
behind : (l : List ℕ) (at k : ℕ) {m : List ℕ} → drop at l ≡ m → drop (at + k) l ≡ drop k m
behind l at k e = rw (← (drop-drop k at l), e)

-- the numbers of a step that stand at a place are read there
words_at_lem :
    (l : List ℕ) (at : ℕ) (s : Step) (rest : List ℕ) → drop at l ≡ bytes_of_words (words_of s) ++ rest → Fits s →
    words_at l at ≡ words_of s
unfolding words_at
words_at_lem l at s rest e f =
    let w = words_of s in
    let fit = in_bytes s f in
    let small : w.kind + 256 * w.form < 256 ^ 4 = omega (arith, small_kind s, small_form s) in
    let first : word_at l at ≡ w.kind + 256 * w.form = rw e (back 4 (w.kind + 256 * w.form) small) in
    let a : word_at l (at + 4) ≡ w.a = rw (behind l at 4 e) (back 4 w.a fit.0) in
    let b : word_at l (at + 8) ≡ w.b = rw (behind l at 8 e) (back 4 w.b fit.1) in
    let c : word_at l (at + 12) ≡ w.c = rw (behind l at 12 e) (back 4 w.c fit.2) in
    let kind : (w.kind + 256 * w.form) % 256 ≡ w.kind = omega (arith, small_kind s) in
    let form : (w.kind + 256 * w.form) / 256 ≡ w.form = omega (arith, small_kind s) in
    rw (first, kind, form, a, b, c)

-- 16 bytes a step
pub length-encoded : (ss : List Step) → length (encode_of ss) ≡ 16 * length ss
length-encoded [] = refl
length-encoded (s ∷ ss) = omega (arith, length-encoded ss)

-- the records from a place on are those of the steps
record Decoded (l : List ℕ) (at : ℕ) (ss : List Step) : Type 0 where
  are : are_records (length ss) l at ≡ true
  steps : steps_at (length ss) l at ≡ ss

decoded : (l : List ℕ) (at : ℕ) {ss : List Step} → drop at l ≡ encode_of ss → All Fits ss → Decoded l at ss
decoded l at e none = record { are = refl; steps = refl }
decoded l at e (more {s} {ss} f fs) =
    let w = words_at_lem l at s (encode_of ss) e f in
    let d = decoded l (at + 16) (behind l at 16 e) fs in
    record {
      are = rw (w, step_back s, same_self (words_of s)) d.are;
      steps = rw (w, step_back s, d.steps);
    }

-- as many steps as records
pub length-steps : (n : ℕ) (l : List ℕ) (at : ℕ) → length (steps_at n l at) ≡ n
length-steps zero l at = refl
length-steps (suc n) l at = ap suc (length-steps n l (at + 16))

-- a slice of whole records, few enough, by what its records are
pub by_records :
    (l : List ℕ) → length l ≤ 384 → length l % 16 ≡ 0 →
    decode_of l ≡ cond (are_records (length l / 16) l 0) (steps_at (length l / 16) l 0) []
unfolding decode_of
by_records l h e = rw (le-leb (length l) 384 h, e)

-- encoding then decoding gives the steps back
pub decoded_back : (ss : List Step) → length ss ≤ 24 → All Fits ss → decode_of (encode_of ss) ≡ ss
decoded_back ss h fs =
    let d = decoded (encode_of ss) 0 refl fs in
    let size : length (encode_of ss) ≡ 16 * length ss = length-encoded ss in
    let count : length (encode_of ss) / 16 ≡ length ss = omega arith in
    by_records (encode_of ss) (omega arith) (omega arith) ∙ rw (count, d.are) d.steps

-- four bytes are those of their number
four_bytes :
    (l : List ℕ) (at m : ℕ) {rest : List ℕ} → AreBytes l → at + 4 ≡ m → m ≤ length l → rest ≡ drop m l →
    low_first 4 (word_at l at) ++ rest ≡ drop at l
four_bytes l at m {rest = rest} h e r f =
    let room : 4 ≤ length (drop at l) = rw length-drop (omega arith) in
    let bytes : AreBytes (drop at l) = λ i. rw get_or-drop (h (at + i)) in
    ap (λ (xs : List ℕ). xs ++ rest) (forth 4 (drop at l) bytes room) ∙ rw (f, ← e, ← (drop-drop 4 at l), take-append-drop)

-- sixteen bytes are those of their numbers
record_at : (l : List ℕ) (at : ℕ) → AreBytes l → at + 16 ≤ length l → bytes_of_words (words_at l at) ++ drop (at + 16) l ≡ drop at l
unfolding words_at
record_at l at h r =
    let first : word_at l at % 256 + 256 * (word_at l at / 256) ≡ word_at l at = omega arith in
    let from-12 = four_bytes l (at + 12) (at + 16) h (omega arith) r refl in
    let from-8 = four_bytes l (at + 8) (at + 12) h (omega arith) (omega arith) from-12 in
    rw first (four_bytes l at (at + 4) h refl (omega arith) (four_bytes l (at + 4) (at + 8) h (omega arith) (omega arith) from-8))

-- records of steps are what these encode to
encoded :
    (n : ℕ) (l : List ℕ) (at : ℕ) → AreBytes l → at + 16 * n ≡ length l → are_records n l at ≡ true →
    encode_of (steps_at n l at) ≡ drop at l
encoded zero l at h e r = sym (drop_of_length-le l {i = at} (omega arith))
encoded (suc n) l at h e r =
    let now = (and-eq-true_iff (is_record (words_at l at)) _).0 r in
    let same = same_words_lem (words_of (step_from (words_at l at))) (words_at l at) now.0 in
    rw (same, encoded n l (at + 16) h (omega arith) now.1) (record_at l at h (omega arith))

-- what a test chose, where that is some step
chosen : (t : Bool) (xs : List Step) {s : Step} {ss : List Step} → cond t xs [] ≡ s ∷ ss → (t ≡ true) × (xs ≡ s ∷ ss)
chosen true xs e = (refl, e)
chosen false xs e = let z : ◌≡◌ {A = ℕ} 0 1 = cc in absurd (omega arith)

-- nothing but what encodes is decoded
pub only_records : (l : List ℕ) → AreBytes l → (s : Step) (ss : List Step) → decode_of l ≡ s ∷ ss → encode_of (s ∷ ss) ≡ l
unfolding decode_of
only_records l h s ss e =
    let n = length l / 16 in
    let was = chosen (leb (length l) 384 && (eqb (length l % 16) 0 && are_records n l 0)) (steps_at n l 0) e in
    let rest = (and-eq-true_iff (eqb (length l % 16) 0) (are_records n l 0)).0 ((and-eq-true_iff (leb (length l) 384) _).0 was.0).1 in
    let whole : 0 + 16 * n ≡ length l = omega (arith, eqb-true (length l % 16) 0 rest.0) in
    sym (ap encode_of was.1) ∙ encoded n l 0 h whole rest.1

-- what is refused before a record is looked at: too long a slice, and one that is no multiple of 16
pub too_long : (l : List ℕ) → 384 < length l → decode_of l ≡ []
unfolding decode_of
too_long l h = rw (lt-leb (length l) 384 h)

pub not-whole : (l : List ℕ) → (length l % 16 ≡ 0 → ⊥) → decode_of l ≡ []
unfolding decode_of
not-whole l h = rw (ne_eqb (length l % 16) 0 h, and-false)

-- one record less is left from the next one on, which stands 16 bytes further
one_less : (n i : ℕ) → i < n → n - i ≡ suc (n - (i + 1))
one_less n i h = omega arith

next_place : (i : ℕ) → 16 * (i + 1) ≡ 16 * i + 16
next_place i = omega arith

-- the test of the records from record i on: this one's, and that of those from the next one on
pub are_next :
    (n i : ℕ) (l : List ℕ) → i < n →
    are_records (n - i) l (16 * i) ≡ (is_record (words_at l (16 * i)) && are_records (n - (i + 1)) l (16 * (i + 1)))
are_next n i l h = rw (one_less n i h, next_place i)

-- and their steps
pub steps_next :
    (n i : ℕ) (l : List ℕ) → i < n →
    steps_at (n - i) l (16 * i) ≡ step_from (words_at l (16 * i)) ∷ steps_at (n - (i + 1)) l (16 * (i + 1))
steps_next n i l h = rw (one_less n i h, next_place i)

-- a step put at its place, with those behind it still to be put
pub put_step :
    (l : List ℕ) (ss : List Step) (i : ℕ) → i < length ss →
    sets (sets l (16 * i) (bytes_of_words (words_of (get_or ss i blank_step)))) (16 * (i + 1)) (encode_of (drop (i + 1) ss))
    ≡ sets l (16 * i) (encode_of (drop i ss))
put_step l ss i h =
    let next = next_place i in
    let here = drop-cons ss i blank_step in
    rw (next, add-one, here) (sym (sets-append (bytes_of_words (words_of (get_or ss i blank_step))) (encode_of (drop (suc i) ss)) l (16 * i)))

-- Demand 3 with zone and instant in place of now: at every instant, the refusals of now included.
use Prim.Native.Nat.{ℕ}
use mathlib.Core.Path.{◌≡◌, refl, ap, sym, ◌∙◌}
use mathlib.Core.Bool.{Bool, true, false, cond}
use mathlib.Core.List.{List}
use lib.Dec.{ltb}
use borrow.Author.Tests.{ltb-true}
use Rattle.std.specs.Prelude.{Option, Some, None}
use Rattle.refusals.specs.declared.Reason.TheVariants.{NoZone, InvalidMoment, PastLast}
use Rattle.refusals.specs.Answers.{Answer, given, refused, refuse, and_then}
use Rattle.calendar.specs.Moments.{refused as unreached}
use Rattle.lexer.specs.Keywords.{words_in}
use Rattle.lexer.specs.declared.reading.Reading.{Reading}
use Rattle.phrase.specs.Read.{ReadPhrase, read_of}
use Rattle.answer.specs.Answer.{placed}
use Rattle.ready.specs.Made.{steps_of}
use Rattle.ready.specs.Ready.{ready_of}
use Rattle.ready.proofs.ReadyPhrases.{Enters, ready_answers_in}
use Rattle.tzif.specs.Zones.{Zone, IsZone}
use Rattle.tzif.specs.File.{checked_of, zone_in, zone_by, zone_of}
use Rattle.tzif.specs.declared.file.Places.{Places}
use Rattle.zones.specs.Civil.{civil_of, last_in, in_years}
use Rattle.zones.specs.Instants.{Good}
use Rattle.zones.specs.declared.instants.Instant.{Instant}
use Rattle.zoned.specs.InZone.{in_zone, enter_at, evaluate_at, run_at}
use Rattle.zones.proofs.Bounds.{file_zone}
use Rattle.zoned.specs.Local.{local_at, shown_in, run_in_zone, evaluate_in_zone}
use Rattle.zoned.specs.declared.local.Local.{Local}
use Rattle.zoned.proofs.Acts.{years_good}
use Rattle.zoned.proofs.Joins.{zone_lawful}

-- by a test, the same where it holds
where_true : {A : Type 0} (b : Bool) (r : A) {p q : A} → (b ≡ true → p ≡ q) → cond b p r ≡ cond b q r
where_true true r e = e refl
where_true false r e = refl

module _ (z : Zone) (n : Instant) where
  -- a call is in the world only at a good now
  enters : Enters (λ x. Good z x.second) (enter_at z n)
  enters = record {
    same = λ f g e.
        where_true (ltb n.millisecond 1000) (unreached InvalidMoment)
        (λ _. where_true (ltb n.second (last_in z)) (unreached PastLast)
        (λ h. where_true (in_years (civil_of z n.second)) (unreached InvalidMoment)
        (λ k. e n (years_good z n.second (ltb-true n.second (last_in z) h) k))));
  }

  -- for every reading and every phrase: a phrase made ready and run in the zone gives the answer of the phrase there
  pub calls_alike :
      IsZone z → (reading : Reading) (s : List ℕ) →
      and_then (ready_of reading (words_in reading) s) (λ ss. placed (run_at z ss n))
      ≡ and_then (read_of reading (words_in reading) s) (λ x. placed (evaluate_at z x.tree n))
  unfolding run_at evaluate_at
  calls_alike v reading s = ready_answers_in (in_zone z) (λ x. Good z x.second) (zone_lawful z v) (enter_at z n) enters reading s

-- of three answers the last two may be taken together
then_together :
    {A B C : Type 0} (w : Answer A) (f : A → Answer B) (g : B → Answer C) → and_then w (λ x. and_then (f x) g) ≡ and_then (and_then w f) g
then_together (given x) f g = refl
then_together (refused r) f g = refl

-- an answer that does not look at the steps does not look at the reading
unseen :
    (w : ReadPhrase) (none : Answer Local) → and_then (and_then w (λ x. given (steps_of x.tree))) (λ ss. none) ≡ and_then w (λ x. none)
unseen (given x) none = refl
unseen (refused q) none = refl

-- with the file, and what the clocks show: 21 behind 1 to 7
module _ (reading : Reading) (s file : List ℕ) (n : Instant) where
  by_check :
      (k : Option Places) → checked_of file ≡ k →
      and_then (ready_of reading (words_in reading) s) (λ ss. and_then (zone_by file k) (λ z. shown_in z (run_at z ss n)))
      ≡ and_then (read_of reading (words_in reading) s) (λ x. and_then (zone_by file k) (λ z. shown_in z (evaluate_at z x.tree n)))
  unfolding ready_of
  by_check None e = unseen (read_of reading (words_in reading) s) (refuse NoZone 0 0)
  by_check (Some p) e =
      let z = zone_in file p in
      let show : Instant → Answer Local = λ x. given (local_at z x) in
      then_together (ready_of reading (words_in reading) s) (λ ss. placed (run_at z ss n)) show
      ∙ ap (λ (w : Answer Instant). and_then w show) (calls_alike z n (file_zone file p e) reading s)
      ∙ sym (then_together (read_of reading (words_in reading) s) (λ x. placed (evaluate_at z x.tree n)) show)

  pub zone_calls_alike :
      and_then (ready_of reading (words_in reading) s) (λ ss. run_in_zone ss file n)
      ≡ and_then (read_of reading (words_in reading) s) (λ x. evaluate_in_zone x.tree file n)
  unfolding run_in_zone evaluate_in_zone zone_of
  zone_calls_alike = by_check (checked_of file) refl

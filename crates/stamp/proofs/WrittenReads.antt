-- What is written reads back the same. Assumes nothing.
use Prim.Native.Nat.{ℕ, zero, suc, ◌+◌, ◌-◌, ◌*◌, ◌/◌, ◌%◌, ◌≤◌, ◌<◌}
use Prim.Native.Char.{code}
use native.Mathlib.Omega.{arith}
use mathlib.Core.Path.{◌≡◌, refl, sym, ap, ap₂, ◌∙◌}
use mathlib.Core.Bool.{Bool, true, false, ◌&&◌, cond, or-true}
use mathlib.Core.List.{List, [], ◌∷◌, ◌++◌, map, append_assoc}
use mathlib.Core.Logic.{◌⊎◌, ⊎_elim}
use lib.Dec.{eqb}
use lib.ListN.{length, drop, length-append}
use lib.Seq.{take_at, drop_at}
use borrow.Author.Tests.{eqb-true, ne_eqb, lt-ltb, le-ltb}
use Rattle.refusals.specs.declared.Reason.TheVariants.{NoStamp}
use Rattle.refusals.specs.Answers.{Answer, given, refuse}
use Rattle.refusals.proofs.Holds.{given_holds}
use Rattle.digits.specs.Bytes.{bytes_of}
use Rattle.digits.specs.Digits.{digit_of, digits_of}
use Rattle.digits.specs.Forms.{of_form}
use Rattle.digits.proofs.Forms.{form_behind}
use Rattle.digits.proofs.Says.{digit_is, two_say}
use Rattle.calendar.specs.Moments.{IsMoment, is_time}
use Rattle.calendar.specs.Fixed.{moment_form, moment_text, moment_in}
use Rattle.calendar.specs.declared.moments.Moment.{Moment}
use Rattle.calendar.proofs.ReadBack.{moment_fits, moment_back}
use Rattle.calendar.proofs.Valid.{day_passes, time_passes}
use Rattle.stamp.specs.Grammar.{Rule, form, behind, in_order, either, optional, time_secfrac, time_offset, date_time, is_of}
use Rattle.stamp.specs.Stamps.{IsOffset, offset_place, fraction_at, millisecond_in, offset_in, offset_exists, stamp_at, stamp_in}
use Rattle.stamp.specs.Stamps.{moment_exists, in_years, stamp_of, offset_text, fraction_text, stamp_text, written_of}
use Rattle.stamp.specs.declared.Offset.{Offset}
use Rattle.stamp.specs.declared.Stamp.{Stamp}
use Rattle.stamp.proofs.Grammar.{either_of}
use Rattle.stamp.proofs.Offsets.{offset_sizes}
use Rattle.stamp.proofs.Fractions.{fraction_short, three_say}
use Rattle.stamp.proofs.Writings.{writing}

-- behind a text of a form only what is behind the form is judged
rest_judged : (f s : List ℕ) (r : Rule) (u : List ℕ) → of_form f s ≡ true → is_of (map (λ g. f ++ g) r) (s ++ u) ≡ is_of r u
unfolding is_of
rest_judged f s [] u h = refl
rest_judged f s (g ∷ r) u h = rw (form_behind f s g u h, rest_judged f s r u h)

-- the forms of what stands behind a moment
abbrev rests : Rule
rests = in_order (optional time_secfrac ∷ time_offset ∷ [])

behind_moment : (t : Moment) (u : List ℕ) → is_of date_time (moment_text (code "T") t ++ u) ≡ is_of rests u
behind_moment t u = rest_judged (moment_form (code "T")) (moment_text (code "T") t) rests u (moment_fits (code "T") t)

-- a fraction and an offset behind 19 bytes are found in their places
module _ (m f u : List ℕ) (front : length m ≡ 19) (few : length f ≤ 4) (sizes : (length u ≡ 1) ⊎ (length u ≡ 6)) where
  bytes : length (m ++ f ++ u) ≡ 19 + length f + length u
  bytes = simp (length-append, front)

  place_found : offset_place (m ++ f ++ u) ≡ 19 + length f
  place_found =
      rw bytes
      (⊎_elim (λ one. rw (lt-ltb (19 + length f + length u) 25 (omega arith)) (omega arith))
      (λ six. rw (le-ltb (19 + length f + length u) 25 (omega arith)) (omega arith)) sizes)

  fraction_found : fraction_at (19 + length f) (m ++ f ++ u) ≡ f
  fraction_found =
      let digits : 19 + length f - 19 ≡ length f = omega arith in
      rw (digits, append_assoc m f u, drop_at m (f ++ u) 19 front) (take_at f u (length f) refl)

  offset_found : drop (19 + length f) (m ++ f ++ u) ≡ u
  offset_found = drop_at (m ++ f) u (19 + length f) (simp (length-append, front))

-- a fraction that was written says its milliseconds
fraction_says : (ms : ℕ) → ms < 1000 → millisecond_in (fraction_text ms) ≡ ms
fraction_says ms h = go (eqb ms 0) refl
  where
    go : (b : Bool) → eqb ms 0 ≡ b → millisecond_in (fraction_text ms) ≡ ms
    go true e = rw e (sym (eqb-true ms 0 e))
    go false e = rw e (three_say ms h)

-- what is found of an offset that was written behind a fraction
record Found (ms : ℕ) (o : Offset) : Type 0 where
  form : is_of rests (fraction_text ms ++ offset_text o) ≡ true
  exists : offset_exists (offset_text o) ≡ true
  offset : offset_in (offset_text o) ≡ o

found : (ms w m : ℕ) → w ≤ 1 → m < 1440 → Found ms (record { west = w; minutes = m })
unfolding is_of
found ms w m l h = by_west w l
  where
    hours : 10 * (digit_of (m / 60 / 10) - 48) + (digit_of (m / 60) - 48) ≡ m / 60
    hours = two_say (m / 60) (omega arith)

    rest : 10 * (digit_of (m % 60 / 10) - 48) + (digit_of (m % 60) - 48) ≡ m % 60
    rest = two_say (m % 60) (omega arith)

    sum : 60 * (m / 60) + m % 60 ≡ m
    sum = omega arith

    both : is_time (m / 60) (m % 60) 0 0 ≡ true
    both = time_passes (record { hour = omega arith; minute = omega arith; second = omega arith; millisecond = omega arith })

    formed : (b : Bool) (u : List ℕ) → is_of time_offset u ≡ true → is_of rests (cond b [] (code "." ∷ digits_of 3 ms) ++ u) ≡ true
    formed true u e = either_of time_offset (in_order (time_secfrac ∷ time_offset ∷ [])) u ∙ rw e
    formed false u e =
        let digits = code "." ∷ digits_of 3 ms in
        let thousandths : is_of (behind (form ".000") time_offset) (digits ++ u) ≡ true =
        rest_judged (bytes_of ".000") digits time_offset u (simp digit_is) ∙ e in
        let fewer = in_order (either (form "") (either (form ".0") (form ".00")) ∷ time_offset ∷ []) in
        either_of fewer (behind (form ".000") time_offset) (digits ++ u) ∙ rw thousandths (or-true (is_of fewer (digits ++ u)))

    by_minutes : (b : Bool) → eqb m 0 ≡ b → Found ms (record { west = 0; minutes = m })
    by_minutes true e =
        record { form = rw e (formed (eqb ms 0) (bytes_of "Z") refl); exists = rw e; offset = rw (eqb-true m 0 e) }
    by_minutes false e =
        record {
          form = rw e (formed (eqb ms 0) _ (simp digit_is));
          exists = rw (e, hours, rest) both;
          offset = rw (e, hours, rest, sum);
        }

    by_west : (w : ℕ) → w ≤ 1 → Found ms (record { west = w; minutes = m })
    by_west zero l = by_minutes (eqb m 0) refl
    by_west (suc zero) l =
        record { form = formed (eqb ms 0) _ (simp digit_is); exists = rw (hours, rest) both; offset = rw (hours, rest, sum) }
    by_west (suc (suc w)) l = absurd (omega arith)

-- a text of the grammar by its stamp and whether its offset exists
abbrev judged_by : Stamp → Bool → Answer Stamp
judged_by st b = cond (moment_exists st.moment && b) (in_years st) (refuse NoStamp 0 0)

-- a moment and an offset that exist are a stamp
exist : (st : Stamp) → IsMoment st.moment → judged_by st true ≡ given st
exist st h = rw (day_passes h.date, time_passes h.time, ne_eqb st.moment.year 0 (λ e. omega (arith, h.date)))

-- a moment with an offset reads back from its text
pub text_reads : (st : Stamp) → IsMoment st.moment → IsOffset st.offset → stamp_of (stamp_text st) ≡ given st
unfolding stamp_of
text_reads st h l =
    let t = st.moment in
    let o = st.offset in
    let m = moment_text (code "T") t in
    let f = fraction_text t.millisecond in
    let u = offset_text o in
    let s = stamp_text st in
    let back = found t.millisecond o.west o.minutes l.west l.minutes in
    let few = fraction_short t.millisecond in
    let place = place_found m f u refl few (offset_sizes o) in
    let fraction = ap millisecond_in (fraction_found m f u refl few (offset_sizes o)) ∙ fraction_says t.millisecond h.time.millisecond in
    let offset = offset_found m f u refl few (offset_sizes o) in
    let moment = ap (λ (k : ℕ). moment_in k s) fraction ∙ moment_back (code "T") t (f ++ u) h in
    let same : stamp_in s ≡ st =
    ap (λ (p : ℕ). stamp_at p s) place ∙ ap₂ (λ (a : Moment) (b : Offset). record { moment = a; offset = b }) moment (ap offset_in offset ∙ back.offset) in
    let exists : offset_exists (drop (offset_place s) s) ≡ true =
    ap (λ (p : ℕ). offset_exists (drop p s)) place ∙ ap offset_exists offset ∙ back.exists in
    rw (behind_moment t (f ++ u) ∙ back.form) (ap₂ judged_by same exists ∙ exist st h)

-- whatever is written is read as what was written
pub written_reads : (st : Stamp) (room : ℕ) (text : List ℕ) → written_of st room ≡ given text → stamp_of text ≡ given st
written_reads st room text e =
    let wrote = given_holds (writing st room) e in
    rw (← wrote.is) (text_reads st wrote.moment wrote.offset)

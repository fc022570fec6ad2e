-- The head of the order is what a scan of all reminders gives.
use Prim.Native.Nat.{ℕ, zero, suc, ◌+◌, ◌*◌, ◌/◌, ◌%◌, ◌≤◌, ◌<◌, min}
use native.Mathlib.Nat.{le_refl, not-suc-le-zero}
use native.Mathlib.Omega.{arith}
use mathlib.Core.Path.{◌≡◌, refl, ap}
use mathlib.Core.Bool.{Bool, true, false, cond}
use mathlib.Core.List.{List, [], ◌∷◌}
use lib.Dec.{ltb, eqb}
use lib.ListN.{length, take, get_or}
use borrow.Author.Tests.{ltb-true, ltb-false, lt-ltb, le-ltb, ne_eqb}
use Rattle.refusals.specs.declared.Reason.TheVariants as refusal
use Rattle.refusals.specs.Answers.{Answer, given, refuse}
use Rattle.refusals.proofs.Holds.{given_holds}
use Rattle.calendar.specs.Gregorian.{days}
use Rattle.calendar.specs.Moments.{Outcome, moment, refused as unreached, IsMoment, Valid, day_of_moment, on_day, instant_of, moment_in}
use Rattle.calendar.specs.declared.moments.Moment.{Moment}
use Rattle.calendar.proofs.Dates.{in_days}
use Rattle.calendar.proofs.Places.{at_own_day, minute_below}
use Rattle.answer.specs.Answer.{placed}
use Rattle.steps.specs.Running.{run_of}
use Rattle.steps.specs.declared.plan.Step.{Step}
use Rattle.ready.proofs.Settles.{run_settled}
use Rattle.records.specs.Records.{decode_of}
use Rattle.board.specs.Rows.{insert, sorted, slot_of}
use Rattle.board.specs.declared.Due.{Due}
use Rattle.board.specs.Boards.{Memory, count_in, is_filled, phrase_at, outcome_at, instants, key_of, at_instant, key_at, keys_from, order_at, due_at, head_of}
use Rattle.board.specs.Scans.{earlier, scan_from, scan_of, IsBoard}

-- every moment has an instant
instant_below : (t : Moment) → IsMoment t → instant_of t < instants
instant_below t v = omega (arith, minute_below t v, v.time)

-- the parts of an instant
record Parts (d h m s ms i : ℕ) : Type 0 where
  day : i / 86400000 ≡ d
  hour : i / 3600000 % 24 ≡ h
  minute : i / 60000 % 60 ≡ m
  second : i / 1000 % 60 ≡ s
  millisecond : i % 1000 ≡ ms

parts : (d h m s ms : ℕ) → h < 24 → m < 60 → s < 60 → ms < 1000 → Parts d h m s ms (1000 * (60 * (1440 * d + 60 * h + m) + s) + ms)
parts d h m s ms p q r u =
    record { day = omega arith; hour = omega arith; minute = omega arith; second = omega arith; millisecond = omega arith }

-- a moment is that of its instant
pub at_own_instant : (t : Moment) → IsMoment t → at_instant (instant_of t) ≡ moment t
unfolding at_instant on_day
at_own_instant t v =
    let p = parts (day_of_moment t) t.hour t.minute t.second t.millisecond v.time.hour v.time.minute v.time.second v.time.millisecond in
    rw (p.day, p.hour, p.minute, p.second, p.millisecond, lt-ltb _ _ (in_days v.date)) (ap moment (at_own_day t v))

-- behind all instants there is none
none_behind : (i : ℕ) → instants ≤ i → at_instant i ≡ unreached refusal.Outside
unfolding at_instant on_day
none_behind i h = rw (le-ltb (i / 86400000) days (omega arith))

-- a run leads to a moment of the calendar
run_valid : (ss : List Step) (n : Moment) → Valid (run_of ss n)
run_valid ss n = record { valid = λ t e. given_holds (run_settled ss n) (ap placed e) }

-- what the first key of a row says, of slots from s₀ on
data Heads (s₀ : ℕ) : List ℕ → Answer Due → Type 0 where
  none : Heads s₀ [] (refuse refusal.NothingDue 0 0)
  late : {h : ℕ} {l : List ℕ} → 256 * instants ≤ h → Heads s₀ (h ∷ l) (refuse refusal.NothingDue 0 0)
  first :
      {h : ℕ} {l : List ℕ} (s : ℕ) (t : Moment) → h ≡ 256 * instant_of t + s → IsMoment t → s₀ ≤ s → s < 256 →
      Heads s₀ (h ∷ l) (given (record { slot = s; moment = t }))

lower : {s : ℕ} {l : List ℕ} {b : Answer Due} → Heads (suc s) l b → Heads s l b
lower none = none
lower (late h) = late h
lower (first s t e v g j) = first s t e v (omega arith) j

-- one slot more, before all others
heads_insert :
    {s₀ : ℕ} (o : Outcome) → Valid o → s₀ < 256 → {l : List ℕ} {b : Answer Due} → Heads (suc s₀) l b →
    Heads s₀ (insert (key_of o s₀) l) (earlier s₀ o b)
heads_insert {s₀} (unreached r) v h none = let far : 256 * instants ≤ 256 * instants + s₀ = omega arith in late far
heads_insert {s₀} (unreached r) v h (late {h = k} g) = let far : 256 * instants ≤ min (256 * instants + s₀) k = omega arith in late far
heads_insert {s₀} (unreached r) v h (first {h = k} s t e w g j) =
    let early = instant_below t w in
    let least : min (256 * instants + s₀) k ≡ 256 * instant_of t + s = omega arith in
    first s t least w (omega arith) j
heads_insert {s₀} (moment t) v h none = first s₀ t refl (v.valid t refl) (le_refl s₀) h
heads_insert {s₀} (moment t) v h (late {h = k} g) =
    let early = instant_below t (v.valid t refl) in
    let least : min (256 * instant_of t + s₀) k ≡ 256 * instant_of t + s₀ = omega arith in
    first s₀ t least (v.valid t refl) (le_refl s₀) h
heads_insert {s₀} (moment t) v h (first {h = k} {l = l} s u e w g j) = go (ltb (instant_of u) (instant_of t)) refl
  where
    go : (b : Bool) → ltb (instant_of u) (instant_of t) ≡ b →
        Heads s₀ (insert (256 * instant_of t + s₀) (k ∷ l)) (cond b (given (record { slot = s; moment = u })) (given (record { slot = s₀; moment = t })))
    go true f =
        let before : instant_of u < instant_of t = ltb-true (instant_of u) (instant_of t) f in
        let least : min (256 * instant_of t + s₀) k ≡ 256 * instant_of u + s = omega arith in
        first s u least w (omega (arith, g)) j
    go false f =
        let before : instant_of t ≤ instant_of u = ltb-false (instant_of u) (instant_of t) f in
        let least : min (256 * instant_of t + s₀) k ≡ 256 * instant_of t + s₀ = omega arith in
        first s₀ t least (v.valid t refl) (le_refl s₀) h

heads_from : (m : Memory) (k i : ℕ) → i + k ≤ 256 → Heads i (sorted (keys_from m (moment_in m.state) k i)) (scan_from m k i)
unfolding key_at keys_from scan_from
heads_from m zero i h = none
heads_from m (suc k) i h = go (is_filled m i) (heads_from m k (suc i) (omega arith))
  where
    go : (b : Bool) → Heads (suc i) (sorted (keys_from m (moment_in m.state) k (suc i))) (scan_from m k (suc i)) →
        let o = outcome_at m (moment_in m.state) i in
        Heads i (sorted (cond b (key_of o i ∷ keys_from m (moment_in m.state) k (suc i)) (keys_from m (moment_in m.state) k (suc i))))
        (cond b (earlier i o (scan_from m k (suc i))) (scan_from m k (suc i)))
    go true r = heads_insert (outcome_at m (moment_in m.state) i) (run_valid (decode_of (phrase_at m i)) (moment_in m.state)) (omega arith) r
    go false r = lower r

order_heads : (m : Memory) → Heads 0 (order_at m (moment_in m.state)) (scan_of m)
unfolding order_at scan_of
order_heads m = heads_from m 256 0 (omega arith)

-- the first key is read
heads_read :
    (keys : List ℕ) (c : ℕ) {b : Answer Due} → c ≤ length keys → Heads 0 (take c keys) b →
    cond (eqb c 0) (refuse refusal.NothingDue 0 0) (due_at (slot_of (get_or keys 0 0)) (at_instant (get_or keys 0 0 / 256))) ≡ b
heads_read keys zero h none = refl
heads_read [] (suc c) h r = absurd (not-suc-le-zero h)
heads_read (k ∷ keys) (suc c) h r = rw (ne_eqb (suc c) 0 (λ z. omega arith)) (go r)
  where
    go : {b : Answer Due} → Heads 0 (k ∷ take c keys) b → due_at (slot_of k) (at_instant (k / 256)) ≡ b
    go (late g) = rw (none_behind (k / 256) (omega arith))
    go (first s t e v g j) =
        let instant : k / 256 ≡ instant_of t = omega arith in
        let slot : k % 256 ≡ s = omega arith in
        rw (instant, at_own_instant t v, slot)

-- "The head of the order equals what a scan of all reminders would give, ties by lower slot"
pub head_scan : (m : Memory) → IsBoard m → head_of m ≡ scan_of m
unfolding head_of
head_scan m board = heads_read m.keys (count_in m.state) (omega (arith, board.sized.keys)) (rw board.row (order_heads m))

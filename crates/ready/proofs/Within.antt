-- How many steps and minutes a plan has once a step is added to it.
use Prim.Native.Nat.{ℕ, zero, suc, ◌+◌, ◌-◌, ◌^◌, ◌≤◌, ◌<◌}
use native.Mathlib.Omega.{arith}
use mathlib.Core.Path.{◌≡◌, ap, ◌∙◌}
use mathlib.Core.List.{List, [], ◌∷◌}
use lib.ListN.{set, get_or}
use Rattle.steps.specs.Joining.{minutes_of}
use Rattle.steps.specs.Plans.{blank_step, begun, last_of, add_to}
use Rattle.steps.specs.declared.plan.Plan.{Plan}
use Rattle.steps.specs.declared.plan.Step.{Step}
use Rattle.steps.specs.declared.plan.Start.{Start}
use Rattle.steps.proofs.Joined.{minutes, Meeting, refusal, apart, lengths, meeting}
use Rattle.ready.specs.Bounds.{widest, Within, Longer}

-- a plan with one step of m minutes more
pub record Grown (p q : Plan) (m : ℕ) : Type 0 where
  pub some : 0 < q.n
  pub most : q.n ≤ p.n + 1
  pub minutes : minutes_of (last_of q) ≤ minutes_of (last_of p) + m

-- a slot that was written has no more minutes than the step that was put there
written : (l : List Step) (i : ℕ) (s : Step) → minutes_of (get_or (set l i s) i blank_step) ≤ minutes_of s
written [] i s = omega arith
written (x ∷ xs) zero s = omega arith
written (x ∷ xs) (suc i) s = written xs i s

meets : (p : Plan) (s : Step) → 0 < p.n → Meeting (last_of p) s → Grown p (add_to p s) (minutes_of s)
unfolding add_to
meets p s some (refusal e j) = rw j (record { some = some; most = omega arith; minutes = omega arith })
meets p s some (apart j) =
    let same : p.n + 1 - 1 ≡ p.n = omega arith in
    let last = written p.slots p.n s in
    rw j (record { some = omega arith; most = omega arith; minutes = rw (same, last_of) (omega arith) })
meets p s some (lengths back m k e f j) =
    let last = written p.slots (p.n - 1) (minutes back (m + k)) in
    rw j (record { some = some; most = omega arith; minutes = omega (arith, ap minutes_of e, ap minutes_of f) })

-- one step more
pub grown : {p q : Plan} (s : Step) → q ≡ add_to p s → 0 < p.n → Grown p q (minutes_of s)
grown {p} s e some = rw e (meets p s some (meeting (last_of p) s))

-- what `add` asks for
pub may_add :
    {p : Plan} {k : ℕ} → Within p k → (s : Step) → minutes_of s ≤ widest → k < 24 →
    (0 < p.n) × (p.n < 24) × (minutes_of (last_of p) + minutes_of s < 2 ^ 64)
may_add h s short few = (h.some, omega (arith, h.most), omega (arith, h.minutes))

-- the bounds of a start alone
pub within_start : {p : Plan} {k : ℕ} (s : Start) → p ≡ begun s → 0 < k → Within p k
within_start s e h = rw e (record { some = omega arith; most = omega arith; minutes = omega arith })

-- of one step more
pub within_behind :
    {p q : Plan} {k i : ℕ} → Within p k → (s : Step) → q ≡ add_to p s → minutes_of s ≤ widest → k < i → Within q i
within_behind h s e short lt =
    let g = grown s e h.some in
    record { some = g.some; most = omega (arith, h.most); minutes = omega (arith, h.minutes) }

-- the same plan in wider bounds
pub within_wider : {p : Plan} {k i : ℕ} → Within p k → k ≤ i → Within p i
within_wider h le = record { some = h.some; most = omega (arith, h.most); minutes = omega (arith, h.minutes) }

-- what is promised of a start alone
pub started : {p : Plan} {k : ℕ} (s : Start) → p ≡ begun s → 0 < k → (p ≡ begun s) × Within p k
started s e h = (e, within_start s e h)

-- of one step more
pub behind :
    {p q x : Plan} {k i : ℕ} → (p ≡ x) × Within p k → (s : Step) → q ≡ add_to p s → minutes_of s ≤ widest → k < i →
    (q ≡ add_to x s) × Within q i
behind h s e short lt = (e ∙ ap (λ (p : Plan). add_to p s) h.0, within_behind h.1 s e short lt)

-- of a plan whose bound is wider
pub widened : {p x : Plan} {k i : ℕ} → (p ≡ x) × Within p k → k ≤ i → (p ≡ x) × Within p i
widened h le = (h.0, within_wider h.1 le)

-- a row of parts more
pub within_row : {p q : Plan} {k i from to : ℕ} → Within p k → Longer p q from to → k + to ≡ i + from → Within q i
within_row h g e = record { some = g.some; most = omega (arith, g.most, h.most); minutes = omega (arith, g.minutes, h.minutes) }

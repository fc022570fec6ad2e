-- The instant of a civil second: what `resolve` gives is the earliest, 22 where it is at or past the last transition, and 23 where there is none.
use Prim.Native.Nat.{ℕ, ◌+◌, ◌-◌, ◌≤◌, ◌<◌}
use native.Mathlib.Omega.{arith}
use mathlib.Core.Path.{◌≡◌, refl, ap, sym, subst, ◌∙◌}
use mathlib.Core.List.{List, [], ◌∷◌}
use mathlib.Core.Logic.{◌⊎◌, inl, inr, ⊎_elim}
use borrow.Author.Tests.{le-leb, lt-leb, lt-ltb, le-ltb}
use Rattle.std.proofs.lemmas.Bool.Decides.{nat_tests}
use Rattle.refusals.specs.declared.Reason.{Reason}
use Rattle.refusals.specs.declared.Reason.TheVariants.{PastLast, NoInstant}
use Rattle.calendar.specs.Moments.{Reach, moment, refused}
use Rattle.digits.proofs.Order.{le-or_lt}
use Rattle.tzif.specs.Zones.{Row, Zone, Ascending}
use Rattle.zones.specs.Civil.{shift_at, last_of, resolve_from, civil_of, last_in, resolve}

-- x, an instant not before `from`, has the civil second c
pub record Has (from o : ℕ) (rs : List Row) (c x : ℕ) : Type 0 where
  pub low : from ≤ x
  pub same : x + shift_at o rs x ≡ c

-- what a civil second can resolve to
pub data Resolved (from o : ℕ) (rs : List Row) (c : ℕ) : Reach ℕ → Type 0 where
  found : (s : ℕ) → Has from o rs c s → s < last_of from rs → ((x : ℕ) → Has from o rs c x → s ≤ x) → Resolved from o rs c (moment s)
  past : (s : ℕ) → Has from o rs c s → ((x : ℕ) → Has from o rs c x → last_of from rs ≤ x) → Resolved from o rs c (refused PastLast)
  never : ((x : ℕ) → Has from o rs c x → ⊥) → Resolved from o rs c (refused NoInstant)

-- the last transition is not before any
pub last_high : (from : ℕ) (rs : List Row) → Ascending from rs → from ≤ last_of from rs
last_high from [] a = omega arith
last_high from (r ∷ rs) a = omega (arith, last_high r.at rs a.1, a.0)

module _ (from o : ℕ) (r : Row) (rs : List Row) (c : ℕ) where
  -- before the first transition
  shift_in : (x : ℕ) → x < r.at → shift_at o (r ∷ rs) x ≡ o
  shift_in x h = grind (arith, nat_tests)

  -- and from it on
  shift_on : (x : ℕ) → r.at ≤ x → shift_at o (r ∷ rs) x ≡ shift_at r.shift rs x
  shift_on x h = grind (arith, nat_tests)

  module _ (step : from ≤ r.at) where
    onto : (x : ℕ) → Has r.at r.shift rs c x → Has from o (r ∷ rs) c x
    onto x h = record { low = omega (arith, h.low); same = ap (λ (k : ℕ). x + k) (shift_on x h.low) ∙ h.same }

    -- where the first piece does not have c
    module _ (none : (x : ℕ) → from ≤ x → x < r.at → x + o ≡ c → ⊥) where
      later_one : (x : ℕ) → Has from o (r ∷ rs) c x → Has r.at r.shift rs c x
      later_one x h =
          ⊎_elim (λ l. record { low = l; same = ap (λ (k : ℕ). x + k) (sym (shift_on x l)) ∙ h.same })
          (λ l. absurd (none x h.low l (ap (λ (k : ℕ). x + k) (sym (shift_in x l)) ∙ h.same))) (le-or_lt r.at x)

      further : {R : Reach ℕ} → Resolved r.at r.shift rs c R → Resolved from o (r ∷ rs) c R
      further (found s h high least) = found s (onto s h) high (λ x k. least x (later_one x k))
      further (past s h all) = past s (onto s h) (λ x k. all x (later_one x k))
      further (never free) = never (λ x k. free x (later_one x k))

    -- where it has
    piece : Ascending r.at rs → from + o ≤ c → c < r.at + o → Resolved from o (r ∷ rs) c (moment (c - o))
    piece a low high =
        let before : c - o < r.at = omega arith in
        found (c - o) (record { low = omega arith; same = ap (λ (k : ℕ). c - o + k) (shift_in (c - o) before) ∙ whole })
        (omega (arith, last_high r.at rs a)) (λ x h. ⊎_elim (λ l. omega arith) (λ l. mine x l h.same) (le-or_lt r.at x))
      where
        whole : c - o + o ≡ c
        whole = omega arith

        mine : (x : ℕ) → x < r.at → x + shift_at o (r ∷ rs) x ≡ c → c - o ≤ x
        mine x l e = let here : x + o ≡ c = ap (λ (k : ℕ). x + k) (sym (shift_in x l)) ∙ e in omega arith

    -- one piece more
    one_more : Ascending r.at rs → Resolved r.at r.shift rs c (resolve_from r.at r.shift rs c)
        → Resolved from o (r ∷ rs) c (resolve_from from o (r ∷ rs) c)
    one_more a rest = ⊎_elim (λ h. ⊎_elim (λ k. above h k) (λ k. within h k) (le-or_lt (r.at + o) c)) short (le-or_lt (from + o) c)
      where
        short : c < from + o → Resolved from o (r ∷ rs) c (resolve_from from o (r ∷ rs) c)
        short h = rw (lt-leb (from + o) c h) (further (λ x l k e. omega arith) rest)

        above : from + o ≤ c → r.at + o ≤ c → Resolved from o (r ∷ rs) c (resolve_from from o (r ∷ rs) c)
        above h k = rw (le-leb (from + o) c h, le-ltb c (r.at + o) k) (further (λ x l m e. omega arith) rest)

        within : from + o ≤ c → c < r.at + o → Resolved from o (r ∷ rs) c (resolve_from from o (r ∷ rs) c)
        within h k = rw (le-leb (from + o) c h, lt-ltb c (r.at + o) k) (piece a h k)

-- the piece behind the last transition
last_piece : (from o c : ℕ) → Resolved from o [] c (resolve_from from o [] c)
last_piece from o c = ⊎_elim reaches short (le-or_lt (from + o) c)
  where
    reaches : from + o ≤ c → Resolved from o [] c (resolve_from from o [] c)
    reaches h = rw (le-leb (from + o) c h) (past (c - o) (record { low = omega arith; same = omega arith }) (λ x k. k.low))

    short : c < from + o → Resolved from o [] c (resolve_from from o [] c)
    short h = rw (lt-leb (from + o) c h) (never (λ x k. omega (arith, k.low, k.same)))

-- each civil second
pub resolved : (from o : ℕ) (rs : List Row) (c : ℕ) → Ascending from rs → Resolved from o rs c (resolve_from from o rs c)
resolved from o [] c a = last_piece from o c
resolved from o (r ∷ rs) c a = one_more from o r rs c a.0 a.1 (resolved r.at r.shift rs c a.1)

module _ (z : Zone) (a : Ascending 0 z.rows) where
  abbrev HasSecond : ℕ → ℕ → Type 0
  HasSecond c x = Has 0 z.first z.rows c x

  abbrev Second : ℕ → Reach ℕ → Type 0
  Second c R = Resolved 0 z.first z.rows c R

  at_second : (c : ℕ) → Second c (resolve z c)
  at_second c = resolved 0 z.first z.rows c a

  has : (c x : ℕ) → civil_of z x ≡ c → HasSecond c x
  has c x e = record { low = omega arith; same = e }

  -- an instant that was found: it has that civil second, lies before the last transition, and is the earliest
  pub record Earliest (c s : ℕ) : Type 0 where
    pub civil : civil_of z s ≡ c
    pub known : s < last_in z
    pub least : (x : ℕ) → civil_of z x ≡ c → s ≤ x

  -- it occurs, but not before the last transition
  pub record Past (c : ℕ) : Type 0 where
    pub one : ℕ
    pub civil : civil_of z one ≡ c
    pub all : (x : ℕ) → civil_of z x ≡ c → last_in z ≤ x

  -- it does not occur
  pub record Never (c : ℕ) : Type 0 where
    pub none : (x : ℕ) → civil_of z x ≡ c → ⊥

  from_found : (c s : ℕ) {R : Reach ℕ} → Second c R → R ≡ moment s → Earliest c s
  from_found c s (found x h high least) e =
      let same : x ≡ s = cc in
      subst (Earliest c) same (record { civil = h.same; known = high; least = λ y k. least y (has c y k) })
  from_found c s (past x h all) e = cc
  from_found c s (never free) e = cc

  from_past : (c : ℕ) {R : Reach ℕ} → Second c R → R ≡ refused PastLast → Past c
  from_past c (found x h high least) e = cc
  from_past c (past x h all) e = record { one = x; civil = h.same; all = λ y k. all y (has c y k) }
  from_past c (never free) e = cc

  from_never : (c : ℕ) {R : Reach ℕ} → Second c R → R ≡ refused NoInstant → Never c
  from_never c (found x h high least) e = cc
  from_never c (past x h all) e = cc
  from_never c (never free) e = record { none = λ x k. free x (has c x k) }

  -- the resolved instant is the earliest
  pub resolve_earliest : (c s : ℕ) → resolve z c ≡ moment s → Earliest c s
  resolve_earliest c s e = from_found c s (at_second c) e

  -- civil of resolve is the identity
  pub civil_resolve : (c s : ℕ) → resolve z c ≡ moment s → civil_of z s ≡ c
  civil_resolve c s e = (resolve_earliest c s e).civil

  -- 22 and 23 exclude each other
  pub past_22 : (c : ℕ) → resolve z c ≡ refused PastLast → Past c
  past_22 c e = from_past c (at_second c) e

  pub never_23 : (c : ℕ) → resolve z c ≡ refused NoInstant → Never c
  never_23 c e = from_never c (at_second c) e

  pub not-both : (c : ℕ) → Past c → Never c → ⊥
  not-both c p n = n.none p.one p.civil

  -- no other refusal
  refusal_of_lem : (c : ℕ) (k : Reason) {R : Reach ℕ} → Second c R → R ≡ refused k → (k ≡ PastLast) ⊎ (k ≡ NoInstant)
  refusal_of_lem c k (found x h high least) e = cc
  refusal_of_lem c k (past x h all) e = inl cc
  refusal_of_lem c k (never free) e = inr cc

  pub only_22_23 : (c : ℕ) (k : Reason) → resolve z c ≡ refused k → (k ≡ PastLast) ⊎ (k ≡ NoInstant)
  only_22_23 c k e = refusal_of_lem c k (at_second c) e

  -- resolve of civil is never later
  pub record NotLater (s : ℕ) (R : Reach ℕ) : Type 0 where
    pub instant : ℕ
    pub is : R ≡ moment instant
    pub before : instant ≤ s

  not-later : (s : ℕ) {R : Reach ℕ} → s < last_in z → Second (civil_of z s) R → NotLater s R
  not-later s l (found x h high least) = record { instant = x; is = refl; before = least s (has (civil_of z s) s refl) }
  not-later s l (past x h all) = let k = all s (has (civil_of z s) s refl) in absurd (omega arith)
  not-later s l (never free) = absurd (free s (has (civil_of z s) s refl))

  pub resolve_civil : (s : ℕ) → s < last_in z → NotLater s (resolve z (civil_of z s))
  resolve_civil s l = not-later s l (at_second (civil_of z s))

  -- and what each answer is due for: the earliest instant, 22 and 23 exactly there
  due_earliest : (c s : ℕ) {R : Reach ℕ} → Second c R → Earliest c s → R ≡ moment s
  due_earliest c s (found x h high least) d =
      let one = least s (has c s d.civil) in
      let two = d.least x h.same in
      let same : x ≡ s = omega arith in
      ap moment same
  due_earliest c s (past x h all) d = let one = all s (has c s d.civil) in absurd (omega (arith, d.known))
  due_earliest c s (never free) d = absurd (free s (has c s d.civil))

  due_past : (c : ℕ) {R : Reach ℕ} → Second c R → Past c → R ≡ refused PastLast
  due_past c (found x h high least) p = let one = p.all x h.same in absurd (omega arith)
  due_past c (past x h all) p = refl
  due_past c (never free) p = absurd (free p.one (has c p.one p.civil))

  due_never : (c : ℕ) {R : Reach ℕ} → Second c R → Never c → R ≡ refused NoInstant
  due_never c (found x h high least) n = absurd (n.none x h.same)
  due_never c (past x h all) n = absurd (n.none x h.same)
  due_never c (never free) n = refl

  pub earliest_resolve : (c s : ℕ) → Earliest c s → resolve z c ≡ moment s
  earliest_resolve c s d = due_earliest c s (at_second c) d

  pub past_is_22 : (c : ℕ) → Past c → resolve z c ≡ refused PastLast
  past_is_22 c p = due_past c (at_second c) p

  pub never_is_23 : (c : ℕ) → Never c → resolve z c ≡ refused NoInstant
  never_is_23 c n = due_never c (at_second c) n

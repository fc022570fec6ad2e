-- The order of the parts changes nothing, and neither does WKST=MO. Assumes nothing.
use Prim.Native.Nat.{ℕ}
use Prim.Native.Char.{code}
use mathlib.Core.Path.{◌≡◌, refl, sym, ap, ◌∙◌}
use mathlib.Core.Bool.{Bool, true, false, false≢true, ◌&&◌, cond, not, and-eq-true_iff, and-false}
use mathlib.Core.List.{List, [], ◌∷◌, ◌++◌, append-nil}
use lib.Dec.{eqb}
use borrow.Author.Tests.{eq-eqb}
use Rattle.std.proofs.Common.{Option, Some, None}
use Rattle.std.specs.Option.{option_and_then}
use Rattle.digits.specs.Bytes.{bytes_of}
use Rattle.digits.specs.Forms.{of_form}
use Rattle.rules.specs.Cut.{in_front, pieces}
use Rattle.rules.specs.Parts.{named, part_of}
use Rattle.rules.specs.Rules.{draft_of, begun, is_weekly, is_monthly, takes, placed, put, read_parts, rule_answer, read_rule}
use Rattle.rules.specs.declared.Freq.{Freq}
use Rattle.rules.specs.declared.Freq.TheVariants.{Daily, Weekly, Monthly}
use Rattle.rules.specs.declared.Rule.{Rule}
use Rattle.rules.specs.declared.part.Part.{Part}
use Rattle.rules.specs.declared.part.Part.TheVariants.{Interval, Bounded, Days, Day, Monday}
use Rattle.rules.specs.declared.draft.Draft.{Draft}
use Rattle.rules.proofs.Cuts.{first_piece}

-- texts with a ";" in front of each
abbrev pub each : List (List ℕ) → List ℕ
each [] = []
each (p ∷ ps) = code ";" ∷ (p ++ each ps)

-- what is read is handed on to a rule's own, and then to the next
assoc : {A B C : Type 0} (x : Option A) (f : A → Option B) (g : B → Option C)
    → option_and_then (λ a. option_and_then g (f a)) x ≡ option_and_then g (option_and_then f x)
assoc None f g = refl
assoc (Some a) f g = refl

pub same_then : {A B : Type 0} (x : Option A) (f g : A → Option B) → ((a : A) → f a ≡ g a) → option_and_then f x ≡ option_and_then g x
same_then None f g h = refl
same_then (Some a) f g h = h a

-- a part that is taken where another one never is behind it
never : (a : Bool) (x : Draft) (f : Draft → Option Draft) → (a ≡ true → f x ≡ None) → option_and_then f (cond a (Some x) None) ≡ None
never true x f h = h refl
never false x f h = refl

-- each is taken where it is taken behind the other
apart : (a b : Bool) (x y z : Draft) (f g : Draft → Option Draft) → f x ≡ cond b (Some z) None → g y ≡ cond a (Some z) None
    → option_and_then f (cond a (Some x) None) ≡ option_and_then g (cond b (Some y) None)
apart true true x y z f g h i = h ∙ sym i
apart true false x y z f g h i = h
apart false true x y z f g h i = sym i
apart false false x y z f g h i = refl

-- two parts of one place
one_place : (d : Draft) (p q : Part) → takes (placed d p) q ≡ false → takes (placed d q) p ≡ false
    → option_and_then (λ e. put e q) (put d p) ≡ option_and_then (λ e. put e p) (put d q)
one_place d p q h i =
    never (takes d p) (placed d p) (λ e. put e q) (λ t. rw h) ∙ sym (never (takes d q) (placed d q) (λ e. put e p) (λ t. rw i))

-- two parts whose places are apart
two_places : (d : Draft) (p q : Part) → takes (placed d p) q ≡ takes d q → takes (placed d q) p ≡ takes d p
    → placed (placed d p) q ≡ placed (placed d q) p → option_and_then (λ e. put e q) (put d p) ≡ option_and_then (λ e. put e p) (put d q)
two_places d p q h i e = apart (takes d p) (takes d q) (placed d p) (placed d q) (placed (placed d p) q) (λ x. put x q) (λ x. put x p) (rw h) (rw (i, e))

-- two parts, one behind the other, in either order
put_swap : (d : Draft) (p q : Part) → option_and_then (λ e. put e q) (put d p) ≡ option_and_then (λ e. put e p) (put d q)
put_swap d (Interval n) (Interval m) = one_place d (Interval n) (Interval m) refl refl
put_swap d (Interval n) (Bounded b) = two_places d (Interval n) (Bounded b) refl refl refl
put_swap d (Interval n) (Days m) = two_places d (Interval n) (Days m) refl refl refl
put_swap d (Interval n) (Day m) = two_places d (Interval n) (Day m) refl refl refl
put_swap d (Interval n) Monday = two_places d (Interval n) Monday refl refl refl
put_swap d (Bounded b) (Interval n) = two_places d (Bounded b) (Interval n) refl refl refl
put_swap d (Bounded b) (Bounded c) = one_place d (Bounded b) (Bounded c) refl refl
put_swap d (Bounded b) (Days n) = two_places d (Bounded b) (Days n) refl refl refl
put_swap d (Bounded b) (Day n) = two_places d (Bounded b) (Day n) refl refl refl
put_swap d (Bounded b) Monday = two_places d (Bounded b) Monday refl refl refl
put_swap d (Days n) (Interval m) = two_places d (Days n) (Interval m) refl refl refl
put_swap d (Days n) (Bounded b) = two_places d (Days n) (Bounded b) refl refl refl
put_swap d (Days n) (Days m) = one_place d (Days n) (Days m) (and-false (is_weekly d.freq)) (and-false (is_weekly d.freq))
put_swap d (Days n) (Day m) = two_places d (Days n) (Day m) refl refl refl
put_swap d (Days n) Monday = two_places d (Days n) Monday refl refl refl
put_swap d (Day n) (Interval m) = two_places d (Day n) (Interval m) refl refl refl
put_swap d (Day n) (Bounded b) = two_places d (Day n) (Bounded b) refl refl refl
put_swap d (Day n) (Days m) = two_places d (Day n) (Days m) refl refl refl
put_swap d (Day n) (Day m) = one_place d (Day n) (Day m) (and-false (is_monthly d.freq)) (and-false (is_monthly d.freq))
put_swap d (Day n) Monday = two_places d (Day n) Monday refl refl refl
put_swap d Monday (Interval n) = two_places d Monday (Interval n) refl refl refl
put_swap d Monday (Bounded b) = two_places d Monday (Bounded b) refl refl refl
put_swap d Monday (Days n) = two_places d Monday (Days n) refl refl refl
put_swap d Monday (Day n) = two_places d Monday (Day n) refl refl refl
put_swap d Monday Monday = refl

-- the same of what two pieces say
said_swap : (d : Draft) (p q : Option Part)
    → option_and_then (λ e. option_and_then (put e) q) (option_and_then (put d) p) ≡ option_and_then (λ e. option_and_then (put e) p) (option_and_then (put d) q)
said_swap d None None = refl
said_swap d None (Some q) = sym (never (takes d q) (placed d q) (λ e. None) (λ h. refl))
said_swap d (Some p) None = never (takes d p) (placed d p) (λ e. None) (λ h. refl)
said_swap d (Some p) (Some q) = put_swap d p q

-- the same two in front of other parts
swapped : (d : Draft) (p q : List ℕ) (ps : List (List ℕ)) → read_parts d (p ∷ q ∷ ps) ≡ read_parts d (q ∷ p ∷ ps)
swapped d p q ps =
    assoc (option_and_then (put d) (part_of p)) (λ e. option_and_then (put e) (part_of q)) (λ e. read_parts e ps)
    ∙ ap (option_and_then (λ e. read_parts e ps)) (said_swap d (part_of p) (part_of q))
    ∙ sym (assoc (option_and_then (put d) (part_of q)) (λ e. option_and_then (put e) (part_of p)) (λ e. read_parts e ps))

-- a part brought to the front
fronted : (p : List ℕ) (ps qs : List (List ℕ)) (d : Draft) → read_parts d (ps ++ (p ∷ qs)) ≡ read_parts d (p ∷ (ps ++ qs))
fronted p [] qs d = refl
fronted p (x ∷ ps) qs d =
    same_then (option_and_then (put d) (part_of x)) (λ e. read_parts e (ps ++ (p ∷ qs))) (λ e. read_parts e (p ∷ (ps ++ qs))) (fronted p ps qs)
    ∙ swapped d x p (ps ++ qs)

-- some parts and others
blocks : (xs ys zs : List (List ℕ)) (d : Draft) → read_parts d (xs ++ (ys ++ zs)) ≡ read_parts d (ys ++ (xs ++ zs))
blocks [] ys zs d = refl
blocks (x ∷ xs) ys zs d =
    same_then (option_and_then (put d) (part_of x)) (λ e. read_parts e (xs ++ (ys ++ zs))) (λ e. read_parts e (ys ++ (xs ++ zs))) (blocks xs ys zs)
    ∙ sym (fronted x ys (xs ++ zs) d)

-- what is read the same is read the same behind other parts
behind : (ps xs ys : List (List ℕ)) → ((d : Draft) → read_parts d xs ≡ read_parts d ys) → (d : Draft) → read_parts d (ps ++ xs) ≡ read_parts d (ps ++ ys)
behind [] xs ys h d = h d
behind (p ∷ ps) xs ys h d =
    same_then (option_and_then (put d) (part_of p)) (λ e. read_parts e (ps ++ xs)) (λ e. read_parts e (ps ++ ys)) (behind ps xs ys h)

-- a text cut where two texts meet at a mark
front_more : (b : ℕ) (ps qs : List (List ℕ)) (p : List ℕ) (rest : List (List ℕ)) → ps ≡ (p ∷ rest) → in_front b (ps ++ qs) ≡ in_front b ps ++ qs
front_more b ps qs p rest e = rw e

joined : (k : ℕ) (s t : List ℕ) → pieces k (s ++ (k ∷ t)) ≡ pieces k s ++ pieces k t
joined k [] t = rw (eq-eqb k k refl)
joined k (b ∷ s) t = go (eqb b k) (joined k s t)
  where
    go : (x : Bool) → pieces k (s ++ (k ∷ t)) ≡ pieces k s ++ pieces k t
        → cond x ([] ∷ pieces k (s ++ (k ∷ t))) (in_front b (pieces k (s ++ (k ∷ t))))
        ≡ cond x ([] ∷ pieces k s) (in_front b (pieces k s)) ++ pieces k t
    go true h = ap (λ x. [] ∷ x) h
    go false h = ap (in_front b) h ∙ front_more b (pieces k s) (pieces k t) _ _ (first_piece k s).1.1

-- the pieces of each of several texts
abbrev cuts : List (List ℕ) → List (List ℕ)
cuts [] = []
cuts (p ∷ ps) = pieces (code ";") p ++ cuts ps

each_cut : (f : List ℕ) (ps : List (List ℕ)) → pieces (code ";") (f ++ each ps) ≡ pieces (code ";") f ++ cuts ps
each_cut f [] = rw (append-nil, append-nil)
each_cut f (p ∷ ps) = joined (code ";") f (p ++ each ps) ∙ ap (λ x. pieces (code ";") f ++ x) (each_cut p ps)

-- behind FREQ a draft has no other part yet
begun_same : (p : List ℕ) (f g : Draft → Option Rule) → ((x : Freq) → f (draft_of x) ≡ g (draft_of x))
    → option_and_then f (begun p) ≡ option_and_then g (begun p)
unfolding begun
begun_same p f g h = go (of_form (bytes_of "FREQ=DAILY") p) (of_form (bytes_of "FREQ=WEEKLY") p) (of_form (bytes_of "FREQ=MONTHLY") p)
  where
    go : (a b c : Bool)
        → option_and_then f (cond a (Some (draft_of Daily)) (cond b (Some (draft_of Weekly)) (cond c (Some (draft_of Monthly)) None)))
        ≡ option_and_then g (cond a (Some (draft_of Daily)) (cond b (Some (draft_of Weekly)) (cond c (Some (draft_of Monthly)) None)))
    go true b c = h Daily
    go false true c = h Weekly
    go false false true = h Monthly
    go false false false = refl

-- two texts with the same beginning, whose other parts are read the same behind FREQ
read_same : (f : List ℕ) (ps qs : List (List ℕ))
    → ((p : List ℕ) (rest : List (List ℕ)) (x : Freq) → pieces (code ";") f ≡ (p ∷ rest)
    → read_parts (draft_of x) (rest ++ cuts ps) ≡ read_parts (draft_of x) (rest ++ cuts qs))
    → read_rule (f ++ each ps) ≡ read_rule (f ++ each qs)
unfolding read_rule
read_same f ps qs h =
    let first = first_piece (code ";") f in
    rw (each_cut f ps, each_cut f qs, first.1.1) (ap rule_answer (begun_same first.0 _ _ (λ x. h first.0 first.1.0 x first.1.1)))

-- "Parts may come in any order after FREQ": two texts that stand one behind the other, each a part or several
pub order_changes_nothing :
    (f p q : List ℕ) (ps : List (List ℕ)) → read_rule (f ++ each (p ∷ q ∷ ps)) ≡ read_rule (f ++ each (q ∷ p ∷ ps))
order_changes_nothing f p q ps =
    let s = code ";" in
    read_same f (p ∷ q ∷ ps) (q ∷ p ∷ ps)
    (λ first rest x is. behind rest _ _ (blocks (pieces s p) (pieces s q) (cuts ps)) (draft_of x))

-- WKST is none of the parts
abbrev pub is_monday : Option Part → Bool
is_monday None = false
is_monday (Some (Interval n)) = false
is_monday (Some (Bounded b)) = false
is_monday (Some (Days n)) = false
is_monday (Some (Day n)) = false
is_monday (Some Monday) = true

abbrev pub no_monday : List (List ℕ) → Bool
no_monday [] = true
no_monday (p ∷ ps) = not (is_monday (part_of p)) && no_monday ps

-- that it was there is not seen behind it
unseen : (ps : List (List ℕ)) (d : Draft) → no_monday ps ≡ true → read_parts (placed d Monday) ps ≡ read_parts d ps
unseen [] d h = refl
unseen (p ∷ ps) d h =
    let both = (and-eq-true_iff (not (is_monday (part_of p))) (no_monday ps)).0 h in
    go (part_of p) both.0 (λ x. unseen ps x both.1)
  where
    on : (t : Bool) (x : Draft) → read_parts (placed x Monday) ps ≡ read_parts x ps
        → option_and_then (λ e. read_parts e ps) (cond t (Some (placed x Monday)) None) ≡ option_and_then (λ e. read_parts e ps) (cond t (Some x) None)
    on true x k = k
    on false x k = refl

    go : (q : Option Part) → not (is_monday q) ≡ true → ((x : Draft) → read_parts (placed x Monday) ps ≡ read_parts x ps)
        → option_and_then (λ e. read_parts e ps) (option_and_then (put (placed d Monday)) q) ≡ option_and_then (λ e. read_parts e ps) (option_and_then (put d) q)
    go None k same = refl
    go (Some (Interval n)) k same = on (takes d (Interval n)) (placed d (Interval n)) (same (placed d (Interval n)))
    go (Some (Bounded b)) k same = on (takes d (Bounded b)) (placed d (Bounded b)) (same (placed d (Bounded b)))
    go (Some (Days n)) k same = on (takes d (Days n)) (placed d (Days n)) (same (placed d (Days n)))
    go (Some (Day n)) k same = on (takes d (Day n)) (placed d (Day n)) (same (placed d (Day n)))
    go (Some Monday) k same = absurd (false≢true k)

-- "WKST only as MO": put in anywhere behind FREQ, or left out
pub monday_changes_nothing :
    (f : List ℕ) (ps : List (List ℕ)) → no_monday (pieces (code ";") (f ++ each ps)) ≡ true →
    read_rule (f ++ each (bytes_of "WKST=MO" ∷ ps)) ≡ read_rule (f ++ each ps)
unfolding part_of named
monday_changes_nothing f ps none =
    read_same f (bytes_of "WKST=MO" ∷ ps) ps
    (λ p rest x first.
    let others : no_monday (p ∷ (rest ++ cuts ps)) ≡ true = rw (each_cut f ps, first) at none in
    fronted (bytes_of "WKST=MO") rest (cuts ps) (draft_of x)
    ∙ unseen (rest ++ cuts ps) (draft_of x) ((and-eq-true_iff (not (is_monday (part_of p))) _).0 others).1)

-- What holds of every turn and every tree that is read: lexemes for each part, and each duration stands at its place.
use Prim.Native.Nat.{ℕ, ◌+◌, ◌*◌, ◌≤◌}
use native.Mathlib.Omega.{arith}
use mathlib.Core.Path.{◌≡◌, refl, sym}
use mathlib.Core.Bool.{Bool, true, false, ◌||◌}
use mathlib.Core.List.{List, []}
use lib.ListN.{length, drop, length-drop}
use lib.Seq.{drop-drop}
use Rattle.lexer.specs.Lexemes as lexeme
use Rattle.lexer.specs.declared.reading.Reading.{Reading}
use Rattle.numbers.specs.Slices.{is_at, one_if}
use Rattle.numbers.proofs.Again.{again_keeps}
use Rattle.numbers.proofs.LexemeAt.{at_most, there}
use Rattle.dates.specs.Parsed.{Parsed, is, nothing, Took}
use Rattle.dates.specs.Durations.{Duration, size, duration_of}
use Rattle.dates.specs.Times.{time_of}
use Rattle.dates.proofs.Each.{Each, pick_each, then_each, if_let_each}
use Rattle.dates.proofs.Parsed.{found, if_let_took}
use Rattle.dates.proofs.LexemesTaken.{time_took}
use Rattle.dates.proofs.Durations.{duration_bounds}
use Rattle.expressions.specs.Tree.{DateExpr}
use Rattle.expressions.specs.DateExprs.{date_expr_of}
use Rattle.expressions.specs.Shapes.{own_of, OwnStands}
use Rattle.expressions.specs.ExprAnswers.{own_place}
use Rattle.expressions.proofs.OwnDuration.{expr_few}
use Rattle.phrase.specs.Tree.{DateTime, date_time, time_date, duration_after, duration_before, now, around}
use Rattle.phrase.specs.DateTimes.{Turn, whole, ago, link, comma_or, time_behind_of, with_duration_of, timed_turn_of, undated_turn_of, turn_of}
use Rattle.phrase.specs.DateTimes.{again_of, date_time_step, date_time_of}
use Rattle.phrase.specs.Chains.{size_tree}
use Rattle.phrase.specs.Outlines.{link_taken, time_taken, is_back}

-- a link of t lexemes: its duration at the front of l, and its direction behind that
pub record LinkStands (r : Reading) (l : List ℕ) (back : Bool) (dur : Duration) (t : ℕ) : Type 0 where
  pub taken : ℕ
  pub reading : duration_of r l ≡ is dur taken
  pub one : t ≡ taken + 1
  pub direction : is_back l taken ≡ back

-- the duration that a base may have, at the place p
pub record BaseStands (reading : Reading) (own : List Duration) (p : ℕ) (l : List ℕ) : Type 0 where
  pub stands : OwnStands reading own (drop p l)
  pub within : p ≤ length l

-- the durations of a tree that stands at the front of l
abbrev pub TreeStands : Reading → List ℕ → DateTime → Type 0
TreeStands reading l (date_time e t) = BaseStands reading (own_of e) (own_place reading l e) l
TreeStands reading l (time_date t e) = BaseStands reading (own_of e) (time_taken reading l + own_place reading (drop (time_taken reading l) l) e) l
TreeStands reading l (duration_after dur x) =
    LinkStands reading l false dur (link_taken reading l) × (link_taken reading l ≤ length l) × TreeStands reading (drop (link_taken reading l) l) x
TreeStands reading l (duration_before dur x) =
    LinkStands reading l true dur (link_taken reading l) × (link_taken reading l ≤ length l) × TreeStands reading (drop (link_taken reading l) l) x
TreeStands reading l now = Unit

-- no link
abbrev pub Bare : DateTime → Type 0
Bare (date_time e t) = Unit
Bare (time_date t e) = Unit
Bare (duration_after dur x) = ⊥
Bare (duration_before dur x) = ⊥
Bare now = Unit

abbrev pub TurnStands : Reading → List ℕ → Turn → ℕ → Type 0
TurnStands reading l (whole x) t = TreeStands reading l x × Bare x
TurnStands reading l (ago dur) t = LinkStands reading l true dur t
TurnStands reading l (link back dur) t = LinkStands reading l back dur t

-- the parts of a turn
abbrev size_turn : Turn → ℕ
size_turn (whole x) = size_tree x
size_turn (ago dur) = size dur
size_turn (link back dur) = size dur

-- a turn of t lexemes, three for each part
pub record TurnHolds (reading : Reading) (l : List ℕ) (x : Turn) (t : ℕ) : Type 0 where
  pub one : 1 ≤ t
  pub most : t ≤ length l
  pub few : 3 * size_turn x ≤ t
  pub stands : TurnStands reading l x t

-- a tree of t lexemes
pub record TreeHolds (reading : Reading) (l : List ℕ) (x : DateTime) (t : ℕ) : Type 0 where
  pub one : 1 ≤ t
  pub most : t ≤ length l
  pub few : 3 * size_tree x ≤ t
  pub stands : TreeStands reading l x

-- a comma or another word that is taken where it stands is there
comma_most : (l : List ℕ) (t x : ℕ) → t ≤ length l → comma_or l t x ≤ length l
comma_most l t x h = go (is_at l t lexeme.Comma) (is_at l t x) refl refl
  where
    go : (a b : Bool) → is_at l t lexeme.Comma ≡ a → is_at l t x ≡ b → t + one_if (a || b) ≤ length l
    go true b e f = let some = there (at_most l t lexeme.Comma) e in omega arith
    go false true e f = let some = there (at_most l t x) f in omega arith
    go false false e f = omega arith

time_behind_took : (reading : Reading) (t : ℕ) (l : List ℕ) → t ≤ length l → Took (time_behind_of reading t l) t (length l)
unfolding time_behind_of
time_behind_took reading t l h =
    let s = comma_or l t lexeme.At in
    let most = comma_most l t lexeme.At h in
    let left = length-drop s l in
    if_let_took (time_of reading (drop s l)) _ _ (time_took reading (drop s l))
    (λ time u a b. record { bounds = (omega arith, omega arith) })
    (record { bounds = (omega arith, omega arith) })

-- the duration of a date expression
expr_base : (reading : Reading) (l : List ℕ) (x : DateExpr) (t : ℕ) → date_expr_of reading l ≡ is x t → BaseStands reading (own_of x) (own_place reading l x) l
expr_base reading l x t e =
    let b = (rw e at (expr_few reading l)).bounds in
    record { stands = b.stands; within = omega arith }

-- the same from s lexemes before on
further : {reading : Reading} (own : List Duration) (p s : ℕ) (l : List ℕ) → s ≤ length l → BaseStands reading own p (drop s l) → BaseStands reading own (s + p) l
further own p s l h b =
    let left = length-drop s l in
    record { stands = rw (drop-drop p s l) at b.stands; within = omega arith }

timed_holds : (reading : Reading) (l : List ℕ) → Each (TurnHolds reading l) (timed_turn_of reading l)
unfolding timed_turn_of
timed_holds reading l =
    then_each (time_of reading l) _ (λ time t e.
    let b = found e (time_took reading l) in
    let s = comma_or l t lexeme.On in
    let most = comma_most l t lexeme.On (omega arith) in
    let left = length-drop s l in
    if_let_each (date_expr_of reading (drop s l)) _ _
    (λ x u f. let k = (rw f at (expr_few reading (drop s l))).bounds in record {
      bounds = record {
        one = omega arith;
        most = omega arith;
        few = omega arith;
        stands = rw e (further (own_of x) (own_place reading (drop s l) x) s l most (expr_base reading (drop s l) x u f), tt);
      };
    })
    (record {
      bounds = record {
        one = omega arith;
        most = omega arith;
        few = omega arith;
        stands = rw e (further [] 0 s l most (record { stands = tt; within = omega arith }), tt);
      };
    }))

module _ (reading : Reading) (l : List ℕ) (dur : Duration) (t : ℕ) (e : duration_of reading l ≡ is dur t) where
  -- a word behind a duration
  behind : (x : Turn) (back : Bool) (word : ℕ) → is_at l t word ≡ true → is_back l t ≡ back → size_turn x ≡ size dur →
      (LinkStands reading l back dur (t + 1) → TurnStands reading l x (t + 1)) → Each (TurnHolds reading l) (is x (t + 1))
  behind x back word h direction same stands =
      let some = there (at_most l t word) h in
      let b = duration_bounds reading l e in
      record {
        bounds = record {
          one = omega arith;
          most = omega arith;
          few = omega arith;
          stands = stands (record { taken = t; reading = e; one = refl; direction = direction });
        };
      }

  duration_holds : Each (TurnHolds reading l) (with_duration_of dur t l)
  unfolding with_duration_of
  duration_holds =
      pick_each (is_at l t lexeme.After) (λ a. behind (link false dur) false lexeme.After a (rw a) refl (λ s. s))
      (λ a. pick_each (is_at l t lexeme.From) (λ b. behind (link false dur) false lexeme.From b (rw (a, b)) refl (λ s. s))
      (λ b. pick_each (is_at l t lexeme.Before) (λ c. behind (link true dur) true lexeme.Before c (rw (a, b)) refl (λ s. s))
      (λ c. pick_each (is_at l t lexeme.Ago) (λ d. behind (ago dur) true lexeme.Ago d (rw (a, b)) refl (λ s. s))
      (λ d. record { bounds = tt }))))

undated_holds : (reading : Reading) (l : List ℕ) → Each (TurnHolds reading l) (undated_turn_of reading l)
unfolding undated_turn_of
undated_holds reading l = if_let_each (duration_of reading l) _ _ (λ dur t e. duration_holds reading l dur t e) (timed_holds reading l)

-- one turn
pub turn_holds : (reading : Reading) (l : List ℕ) → Each (TurnHolds reading l) (turn_of reading l)
unfolding turn_of
turn_holds reading l =
    pick_each (is_at l 0 lexeme.Now)
    (λ e. let some = there (at_most l 0 lexeme.Now) e in record {
      bounds = record { one = omega arith; most = omega arith; few = omega arith; stands = (tt, tt) };
    })
    (λ e. if_let_each (date_expr_of reading l) _ _
    (λ x t f. let b = (rw f at (expr_few reading l)).bounds in
    then_each (time_behind_of reading t l) _ (λ time n g. let k = found g (time_behind_took reading t l (omega arith)) in record {
      bounds = record { one = omega arith; most = omega arith; few = omega arith; stands = (expr_base reading l x t f, tt) };
    }))
    (undated_holds reading l))

-- the lexemes of a link are those of its duration and one
pub link_taken_lem : {reading : Reading} {l : List ℕ} {back : Bool} {dur : Duration} {t : ℕ} → LinkStands reading l back dur t → link_taken reading l ≡ t
link_taken_lem s = rw s.reading (sym s.one)

-- a link around a tree
around_stands : (reading : Reading) (back : Bool) (dur : Duration) (x : DateTime) (l : List ℕ) (t : ℕ) →
    LinkStands reading l back dur t → t ≤ length l → TreeStands reading (drop t l) x → TreeStands reading l (around back dur x)
around_stands reading true dur x l t s most h = rw (link_taken_lem s) (s, most, h)
around_stands reading false dur x l t s most h = rw (link_taken_lem s) (s, most, h)

around_size : (back : Bool) (dur : Duration) (x : DateTime) → size_tree (around back dur x) ≡ size dur + size_tree x
around_size true dur x = refl
around_size false dur x = refl

step_holds : (reading : Reading) (D : List ℕ → Parsed DateTime) → ((m : List ℕ) → Each (TreeHolds reading m) (D m)) → (l : List ℕ)
    → Each (TreeHolds reading l) (date_time_step reading D l)
unfolding date_time_step
step_holds reading D holds l = then_each (turn_of reading l) _ (λ x t e. go x t (rw e at (turn_holds reading l)).bounds)
  where
    go : (x : Turn) (t : ℕ) → TurnHolds reading l x t → Each (TreeHolds reading l) (again_of D l x t)
    go (whole x) t h = record { bounds = record { one = h.one; most = h.most; few = h.few; stands = h.stands.0 } }
    go (ago dur) t h = record {
      bounds = record { one = h.one; most = h.most; few = omega arith; stands = around_stands reading true dur now l t h.stands h.most tt };
    }
    go (link back dur) t h =
        then_each (D (drop t l)) _ (λ x u e.
        let k = (rw e at (holds (drop t l))).bounds in
        let left = length-drop t l in
        let same = around_size back dur x in
        record {
          bounds = record {
            one = omega arith;
            most = omega arith;
            few = omega arith;
            stands = around_stands reading back dur x l t h.stands h.most k.stands;
          };
        })

-- a whole tree
pub date_time_holds : (reading : Reading) (l : List ℕ) → Each (TreeHolds reading l) (date_time_of reading l)
unfolding date_time_of
date_time_holds reading l = again_keeps nothing (date_time_step reading) (λ m w. Each (TreeHolds reading m) w) (λ m. record { bounds = tt }) (step_holds reading) l

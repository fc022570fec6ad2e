-- Every number of a tree that is read is below 2 ^ 32.
use Prim.Native.Nat.{ℕ}
use mathlib.Core.Bool.{Bool, true, false, cond}
use mathlib.Core.List.{List}
use lib.Dec.{ltb}
use lib.ListN.{length, drop, get_or}
use Rattle.refusals.specs.declared.Reason.TheVariants as table
use Rattle.refusals.specs.Answers.{given, refused, refuse, and_then}
use Rattle.refusals.proofs.Holds.{Holds, of_given, of_refusal}
use Rattle.lexer.specs.Lexemes as lexeme
use Rattle.lexer.specs.Words.{Word}
use Rattle.lexer.specs.declared.reading.Reading.{Reading}
use Rattle.lexer.specs.Lex.{Lexed, lexed, codes_of, starts_of}
use Rattle.numbers.specs.Slices.{is_at}
use Rattle.numbers.proofs.Again.{again_keeps}
use Rattle.dates.specs.Parsed.{Parsed, is, nothing, overflow}
use Rattle.dates.specs.Durations.{Duration}
use Rattle.dates.proofs.Each.{Gives, nothing_gives, is_gives, pick_gives, then_gives, if_let_gives}
use Rattle.dates.proofs.Small.{SmallTime, SmallDuration, time_small, duration_small}
use Rattle.expressions.proofs.Small.{SmallExpr, expr_small}
use Rattle.phrase.specs.Tree.{DateTime, date_time, time_date, duration_after, duration_before, now, around}
use Rattle.phrase.specs.DateTimes.{Turn, whole, ago, link, time_behind_of, with_duration_of, timed_turn_of, undated_turn_of, turn_of}
use Rattle.phrase.specs.DateTimes.{again_of, date_time_step, date_time_of}
use Rattle.phrase.specs.Read.{ReadPhrase, reads, read_codes, read_items, read_of}

-- every number of a tree
abbrev pub SmallTree : DateTime → Type 0
SmallTree (date_time e t) = SmallExpr e × SmallTime t
SmallTree (time_date t e) = SmallExpr e × SmallTime t
SmallTree (duration_after dur x) = SmallDuration dur × SmallTree x
SmallTree (duration_before dur x) = SmallDuration dur × SmallTree x
SmallTree now = Unit

-- of a turn
abbrev SmallTurn : Turn → Type 0
SmallTurn (whole x) = SmallTree x
SmallTurn (ago dur) = SmallDuration dur
SmallTurn (link back dur) = SmallDuration dur

time_behind_small : (reading : Reading) (t : ℕ) (l : List ℕ) → Gives SmallTime (time_behind_of reading t l)
unfolding time_behind_of
time_behind_small reading t l = if_let_gives _ (time_small reading _) (λ time u a. is_gives a) (is_gives tt)

with_duration_small : (dur : Duration) (t : ℕ) (l : List ℕ) → SmallDuration dur → Gives SmallTurn (with_duration_of dur t l)
unfolding with_duration_of
with_duration_small dur t l a =
    pick_gives (is_at l t lexeme.After) (is_gives a)
    (pick_gives (is_at l t lexeme.From) (is_gives a)
    (pick_gives (is_at l t lexeme.Before) (is_gives a)
    (pick_gives (is_at l t lexeme.Ago) (is_gives a) nothing_gives)))

turn_small : (reading : Reading) (l : List ℕ) → Gives SmallTurn (turn_of reading l)
unfolding turn_of undated_turn_of timed_turn_of
turn_small reading l =
    pick_gives (is_at l 0 lexeme.Now) (is_gives tt)
    (if_let_gives _ (expr_small reading l) (λ e t a. then_gives _ (time_behind_small reading t l) (λ time n b. is_gives (a, b)))
    (if_let_gives _ (duration_small reading l) (λ dur t a. with_duration_small dur t l a)
    (then_gives _ (time_small reading l) (λ time t a. if_let_gives _ (expr_small reading _) (λ e u b. is_gives (b, a)) (is_gives (tt, a))))))

around_small : (back : Bool) (dur : Duration) (x : DateTime) → SmallDuration dur → SmallTree x → SmallTree (around back dur x)
around_small true dur x a b = (a, b)
around_small false dur x a b = (a, b)

again_small : (D : List ℕ → Parsed DateTime) → ((m : List ℕ) → Gives SmallTree (D m)) → (l : List ℕ) (x : Turn) (t : ℕ) → SmallTurn x →
    Gives SmallTree (again_of D l x t)
again_small D small l (whole x) t a = is_gives a
again_small D small l (ago dur) t a = is_gives (a, tt)
again_small D small l (link back dur) t a = then_gives _ (small (drop t l)) (λ x u b. is_gives (around_small back dur x a b))

step_small : (reading : Reading) (D : List ℕ → Parsed DateTime) → ((m : List ℕ) → Gives SmallTree (D m)) → (l : List ℕ) →
    Gives SmallTree (date_time_step reading D l)
unfolding date_time_step
step_small reading D small l = then_gives _ (turn_small reading l) (λ x t a. again_small D small l x t a)

-- a tree
tree_small : (reading : Reading) (l : List ℕ) → Gives SmallTree (date_time_of reading l)
unfolding date_time_of
tree_small reading l = again_keeps nothing (date_time_step reading) (λ m w. Gives SmallTree w) (λ m. nothing_gives) (step_small reading) l

-- of what reading gives
abbrev pub SmallRead : ReadPhrase → Type 0
SmallRead w = Holds (λ x. SmallTree x.tree) (λ r. Unit {0}) w

codes_small : (p : Parsed DateTime) (count : ℕ) (starts : List ℕ) (n : ℕ) → Gives SmallTree p → SmallRead (read_codes p count starts n)
codes_small (is x t) count starts n h = go (ltb t count)
  where
    go : (b : Bool) → SmallRead (cond b (refuse table.LeftOver (get_or starts t 0) n) (reads x t))
    go true = of_refusal tt
    go false = of_given h.bounds
codes_small nothing count starts n h = of_refusal tt
codes_small overflow count starts n h = of_refusal tt

-- a phrase, with the words of any list
pub read_small : (reading : Reading) (ws : List Word) (s : List ℕ) → SmallRead (read_of reading ws s)
unfolding read_of
read_small reading ws s = go (lexed ws s)
  where
    go : (w : Lexed) → SmallRead (and_then w (read_items reading (length s)))
    go (given items) = codes_small _ (length items) (starts_of items) (length s) (tree_small reading (codes_of items))
    go (refused r) = of_refusal tt

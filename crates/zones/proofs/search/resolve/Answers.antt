use Prim.Native.Nat.{ℕ, ◌+◌}
use native.Mathlib.Omega.{arith}
use mathlib.Core.Path.{◌≡◌, sym, ap, ◌∙◌}
use Rattle.tzif.specs.Read.{zone_read}
use Rattle.zones.specs.Civil.{resolve}
use Rattle.zones.specs.Search.{resolve_at}
use Rattle.zones.proofs.Bounds.{known_of}
use Rattle.zones.proofs.Pieces.{resolve_first, resolve_step, resolve_stop}
use Rattle.zones.proofs.search.resolve.Goals as goal
use Rattle.zones.proofs.search.resolve.Goals.{Else-holds}

-- past a piece that does not hold it
onward : (c : Else-holds)
    → resolve (zone_read c.args.zone) c.args.c ≡ resolve_at c.args.zone.file.now c.args.zone.places (c.loop-k.k + 1) c.args.c
onward c =
    c.loop-k.invariant
    ∙ resolve_step _ _ _ _ c.loop-k-test.true
    ∙ rw (
      ← c.start_of.ensures.0,
      ← c.offset_behind-o.ensures.0,
      ← c.transition_at-end.ensures.0,
      ← c.holds.ensures,
      c.if-holds.false,
    )

pub loop-k-init : goal.loop-k-init
loop-k-init c =
    let zone = c.args.zone in
    let first = c.first_piece-k.ensures in
    resolve_first zone.file.now zone.places (known_of zone) c.args.c c.first_piece-k.result first.1 first.0

pub returns-then-holds : goal.returns-then-holds
returns-then-holds c =
    sym
    (c.loop-k.invariant
    ∙ resolve_step _ _ _ _ c.loop-k-test.true
    ∙ rw (
      ← c.start_of.ensures.0,
      ← c.offset_behind-o.ensures.0,
      ← c.transition_at-end.ensures.0,
      ← c.holds.ensures,
      c.if-holds.true,
    ))

pub returns-then-c-end : goal.returns-then-c-end
returns-then-c-end c =
    sym
    (onward (goal.at.returns-then-c-end c).Else-holds
    ∙ resolve_stop _ _ (known_of c.args.zone) c.loop-k.k c.args.c c.loop-k-test.true
    (omega (arith, c.transition_at-end.ensures.0, c.if-c-end.true)))

pub loop-k-preserved : goal.loop-k-preserved
loop-k-preserved c = onward (goal.at.loop-k-preserved c).Else-holds

pub returns : goal.returns
returns c =
    let zone = c.args.zone in
    let end : c.loop-k.k ≡ zone.places.count = omega arith in
    c.at_last.ensures ∙ sym (c.loop-k.invariant ∙ ap (λ (n : ℕ). resolve_at zone.file.now zone.places n c.args.c) end)

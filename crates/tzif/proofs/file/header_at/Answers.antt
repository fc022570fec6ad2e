use Rattle.std.proofs.Common.{rules}
use Rattle.tzif.specs.File.{header_at}
use Rattle.tzif.proofs.file.header_at.Goals as goal

pub returns : goal.returns
unfolding header_at
returns c = (
  rw (
    ← c.four.ensures,
    ← c.four-2.ensures,
    ← c.four-3.ensures,
    ← c.four-4.ensures,
    ← c.four-5.ensures,
    ← c.four-6.ensures,
  ),
  search rules,
)

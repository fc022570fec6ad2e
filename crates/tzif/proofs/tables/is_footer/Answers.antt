use Rattle.std.proofs.Common.{◌≡◌, ◌+◌, ◌-◌, length, take, drop, eqb, arith}
use Rattle.std.specs.List.{list_any}
use Rattle.std.proofs.lemmas.Grind.{common_steps}
use Rattle.std.proofs.lemmas.Bool.Decides.{nat_tests}
use Rattle.tzif.specs.File.{is_footer}
use Rattle.tzif.proofs.Entries.{newline_listed}
use Rattle.tzif.proofs.tables.is_footer.Goals as goal

pub returns-then-file-at-eq10 : goal.returns-then-file-at-eq10
unfolding is_footer
returns-then-file-at-eq10 c =
    let file = c.args.file.now in
    let from = c.args.at + 1 in
    let found : c.contains.result ≡ list_any (λ x. eqb x 10) (take (length file - from) (drop from file)) = c.contains.ensures.value in
    let newline = rw (newline_listed (take (length file - from) (drop from file))) at found in
    grind (arith, common_steps, nat_tests, newline)

pub returns-else-file-at-eq10 : goal.returns-else-file-at-eq10
unfolding is_footer
returns-else-file-at-eq10 c = grind (arith, common_steps, nat_tests)

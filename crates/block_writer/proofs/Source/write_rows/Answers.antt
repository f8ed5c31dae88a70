use Rattle.std.proofs.Common.{◌≡◌, sym, ap, ◌∙◌, subst, List, ℕ, ◌≤◌, length, take}
use Rattle.number.specs.Buffer.{over}
use Rattle.strip_writer.specs.Rows.{rows_body}
use Rattle.block_writer.specs.Source.{body_of}
use Rattle.block_writer.proofs.SourceLaws.{plane_body}
use Rattle.block_writer.proofs.Source.write_rows.Goals.{After-gather_rows}
use Rattle.block_writer.proofs.Source.write_rows.Goals as goal

body : (c : After-gather_rows) → rows_body (take c.args.self.now.h c.gather_rows.new.out) ≡ body_of c.args.self.now c.args.k
body c = ap rows_body c.gather_rows.ensures ∙ sym (plane_body c.args.self.now c.args.k c.requires.plane)

pub write_rows-requires : goal.write_rows-requires
write_rows-requires c = subst (λ (l : List ℕ). length l ≤ length c.args.out.now) (sym (body (goal.at.write_rows-requires c).After-gather_rows)) c.requires.room

pub returns-clause-len : goal.returns-clause-len
returns-clause-len c = c.write_rows.ensures.0 ∙ ap length (body (goal.at.returns-clause-len c).After-gather_rows)

pub returns-clause-written : goal.returns-clause-written
returns-clause-written c = c.write_rows.ensures.1 ∙ ap (λ (l : List ℕ). over l c.args.out.now) (body (goal.at.returns-clause-written c).After-gather_rows)

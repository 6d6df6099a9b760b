use mathlib.Core.Path.{ap, ◌∙◌}
use Rattle.readers.proofs.Ends.{comment_untested}
use Rattle.readers.specs.Readers.{comment_of}
use Rattle.readers.specs.declared.comments.Ended.{Ended}
use Rattle.token.specs.Reads.{got_of}
use Rattle.token.specs.declared.kind.Kind.TheVariants.{MultilineComment}
use Rattle.readers.proofs.comments.next_multiline_comment.Goals as goal

pub returns : goal.returns
unfolding comment_of
returns c = c.got.ensures ∙ ap (λ (e : Ended). got_of (MultilineComment e.closed) c.args.start e.end) (c.comment_end-end.ensures ∙ comment_untested c.args.comments c.args.s.now c.args.at c.pass_untested.result c.pass_untested.ensures)

-- The remaining depth falls: twice it, and one more for a template.
use Rattle.std.proofs.Common.{◌≡◌, ◌+◌, ◌-◌, ◌*◌, ◌<◌, length}
use Rattle.readers.specs.Rules.{rules_of}
use Rattle.templates.specs.Body.{template_body, template_of, token_of}
use Rattle.text.specs.Utf8.{rest}
use Rattle.templates.proofs.+read_template_read_token.Given as goal

abbrev pub decreases-read_template : goal.decreases-read_template
decreases-read_template l = 2 * l.depth + 1

abbrev pub decreases-read_token : goal.decreases-read_token
decreases-read_token l = 2 * l.depth

abbrev pub invariant-read_template-loop-value : goal.invariant-read_template-loop-value
invariant-read_template-loop-value l =
    (template_body (rules_of l.reading) (token_of (rules_of l.reading) l.depth) l.start 0 (rest l.s l.p) l.p l.level ≡ template_of (rules_of l.reading) (token_of (rules_of l.reading) l.depth) l.start (rest l.s l.at) l.at)
    × (l.level < 4294967296)

abbrev pub decreases-read_template-loop-value : goal.decreases-read_template-loop-value
decreases-read_template-loop-value l = length l.s - l.p

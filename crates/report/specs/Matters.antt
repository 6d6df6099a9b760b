-- What is told by a number of texts.
use Rattle.std.specs.Prelude.{ℕ, eqb, true, false, if◌then◌else◌}
use Rattle.report.specs.declared.finding.Body.TheVariants.{Comment, Template}
use Rattle.report.specs.declared.finding.Matter.{Matter}
use Rattle.report.specs.declared.finding.Matter.TheVariants.{ByteOrderMark, ReadAsCode, Refusal, RunsOn, Unclosed}
use Rattle.token.specs.declared.reason.Reason.{Reason}

-- the matter of a number; the reason is the one with that number, for where no finding has it
unfoldable pub matter_of : ℕ → Reason → Matter
matter_of n reason =
    if eqb n 60 then RunsOn Comment false else
    (if eqb n 61 then RunsOn Comment true else
    (if eqb n 62 then ReadAsCode else
    (if eqb n 63 then Unclosed Comment else
    (if eqb n 64 then Unclosed Template else
    (if eqb n 65 then ByteOrderMark else
    (if eqb n 160 then RunsOn Template false else
    (if eqb n 161 then RunsOn Template true else Refusal reason)))))))

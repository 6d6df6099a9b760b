-- How grave it is: what rune refuses is an error, what it reads otherwise than it looks a warning, and a note where nothing comes of that.
use Rattle.std.specs.Prelude.{true, false}
use Rattle.report.specs.declared.finding.Matter.{Matter}
use Rattle.report.specs.declared.finding.Matter.TheVariants.{ByteOrderMark, ReadAsCode, Refusal, RunsOn, Unclosed}
use Rattle.report.specs.declared.finding.Severity.{Severity}
use Rattle.report.specs.declared.finding.Severity.TheVariants.{Error, Note, Warning}

abbrev pub severity_of : Matter → Severity
severity_of (Refusal reason) = Error
severity_of ByteOrderMark = Error
severity_of (RunsOn body true) = Note
severity_of (RunsOn body false) = Warning
severity_of ReadAsCode = Warning
severity_of (Unclosed body) = Warning

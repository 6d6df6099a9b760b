use Rattle.findings.proofs.Readings.{alone_comment, alone_open, alone_other, alone_shut}
use Rattle.findings.proofs.walk.alone.Goals as goal

pub returns-then-n-eq4 : goal.returns-then-n-eq4
returns-then-n-eq4 c = alone_comment c.args.at c.args.token c.number_of-n.result c.number_of-n.ensures _ c.plain.ensures c.if-n-eq4.true

pub returns-then-n-ne16 : goal.returns-then-n-ne16
returns-then-n-ne16 c = alone_other c.args.at c.args.token c.number_of-n.result c.number_of-n.ensures c.if-n-eq4.false c.if-n-ne16.true

pub returns-then-closes-ne0 : goal.returns-then-closes-ne0
returns-then-closes-ne0 c = alone_shut c.args.at c.args.token c.number_of-n.result c.number_of-n.ensures c.if-n-eq4.false c.if-n-ne16.false c.closes.result c.closes.ensures c.if-closes-ne0.true

pub returns : goal.returns
returns c = alone_open c.args.at c.args.token c.number_of-n.result c.number_of-n.ensures c.if-n-eq4.false c.if-n-ne16.false c.closes.result c.closes.ensures _ c.plain-2.ensures c.if-closes-ne0.false

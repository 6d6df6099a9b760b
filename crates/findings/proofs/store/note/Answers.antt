use mathlib.Core.Path.{subst}
use native.Mathlib.Omega.{arith}
use Rattle.findings.proofs.Stores.{note_full, note_none, note_went}
use Rattle.findings.specs.Notes.{AllSmall}
use Rattle.findings.proofs.store.note.Goals as goal

pub returns-in_default : goal.returns-in_default
returns-in_default c = note_none c.args.store.now c.args.noted.words c.args.noted.count c.args.spotted c.in_default.is

pub returns-then-store-words-lt5 : goal.returns-then-store-words-lt5
returns-then-store-words-lt5 c = note_full c.args.store.now c.args.noted.words c.args.noted.count c.args.spotted c.in-Some.finding c.in-Some.is _ c.no_room.ensures c.if-store-words-lt5.true

pub put-requires : goal.put-requires
put-requires c = (omega (arith, c.if-store-words-lt5.false, c.requires), subst AllSmall c.in-Some.is c.requires.2)

pub returns : goal.returns
returns c = note_went c.args.store.now c.args.noted.words c.args.noted.count c.args.spotted c.in-Some.finding c.in-Some.is _ c.put.ensures c.if-store-words-lt5.false

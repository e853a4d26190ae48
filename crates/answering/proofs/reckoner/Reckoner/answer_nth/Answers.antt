use Rattle.std.proofs.Common.{◌≡◌, Some, rules}
use Rattle.std.specs.Option.{option_map}
use Rattle.laws.specs.Kinds.{kind_by_letter}
use Rattle.pull_table.specs.Tables.{points_of}
use Rattle.rules.specs.History.{ask, inquiry}
use Rattle.answering.specs.Alone.{AnswerPut}
use Rattle.answering.proofs.Alone.{answered}
use Rattle.answering.proofs.reckoner.Reckoner.answer_nth.Goals as goal

pub returns : goal.returns
returns g c =
    let equip = g.E.Equipment.stock c.args.equipment.now in
    let kind = c.in-Some-Some.kind in
    let points = points_of c.in-Some-Some.table in
    let file = c.args.self.now.file in
    let kinds : option_map (λ q. q.kind) file ≡ Some kind = search rules in
    let tables : option_map (λ q. q.points) file ≡ Some points = search rules in
    let put : AnswerPut c.args.self.now.sheet (ask (inquiry (kind_by_letter kind) (equip points) c.in-Some.question)) c.args.number c.args.out.now c.put_answer.result c.put_answer.new.out = search rules in
    answered equip file c.args.self.now.sheet c.args.number kind points c.in-Some.question c.args.out.now c.put_answer.new.out c.put_answer.result
    kinds tables (search rules) put

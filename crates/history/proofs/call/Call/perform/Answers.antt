use Rattle.std.proofs.Common.{refl}
use Rattle.history.specs.Replies.{reply_told}
use Rattle.rules.specs.History.{couple, append}
use Rattle.rules.proofs.Histories.{edit_performed}
use Rattle.history.proofs.call.Call.perform.Goals as goal

-- src/call.rt:51:5
pub returns-in-Couple : goal.returns-in-Couple
returns-in-Couple g c =
    rw c.in-Couple.is (edit_performed c.args.sheet.now (couple c.in-Couple.figures) c.couple.result (reply_told c.from.result) c.couple.new.self
    c.from.ensures c.couple.ensures.answer c.couple.ensures.held refl tt (λ passes changed. (passes, changed)))

pub returns-in-Append : goal.returns-in-Append
returns-in-Append g c =
    rw c.in-Append.is (edit_performed c.args.sheet.now (append c.in-Append.figures) c.append.result (reply_told c.from-in-Append.result) c.append.new.self
    c.from-in-Append.ensures c.append.ensures.answer c.append.ensures.held refl tt (λ passes changed. (passes, changed)))

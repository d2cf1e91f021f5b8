use Rattle.std.proofs.Common.{sym, rules}
use Rattle.chart.proofs.Bounds.{right_short}
use Rattle.chart.proofs.setting.Setting.take.Goals as goal

pub overflow_add-seen : goal.overflow_add-seen
overflow_add-seen g c =
    let grammar = c.args.self.now.grammar in
    let short = right_short (g.G.Grammar.rules grammar) (g.G.Grammar.limits grammar) c.from.result c.from-2.result c.in-Some.symbol (sym c.in-Some.ensures) in
    search rules

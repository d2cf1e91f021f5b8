use Rattle.std.proofs.Common.{refl}
use Rattle.chart.specs.Charts.{held}
use Rattle.chart.specs.Settings.{task}
use Rattle.chart.proofs.Keeping.{fits}
use Rattle.chart.proofs.Reachability.{sound_of, opens, opening_reachable, stands_of}
use Rattle.chart.proofs.working.WorkingChart.open.Goals as goal

pub invariant_of-result : goal.invariant_of-result
invariant_of-result g c =
    let t = task c.args.setting in
    let after = held c.node_arrivals.new.table in
    let is = opens t (held c.new-table.result) (held c.word_arrivals.new.table) after c.new-table.ensures c.word_arrivals.ensures c.node_arrivals.ensures in
    record { reachable = opening_reachable t after is; fits = fits c.node_arrivals.new.table }

pub returns : goal.returns
returns g c =
    let s = c.args.setting in
    let t = task s in
    let sound = sound_of g.met.W.Weighing.lawful s in
    let after = held c.node_arrivals.new.table in
    let is = opens t (held c.new-table.result) (held c.word_arrivals.new.table) after c.new-table.ensures c.word_arrivals.ensures c.node_arrivals.ensures in
    record { setting = refl; opened = is; stands = stands_of sound after (opening_reachable t after is) }

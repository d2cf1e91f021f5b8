use Rattle.std.proofs.Common.{ap, ◌∙◌, subst₂, Ok}
use Rattle.chart_model.specs.Plain.{settled}
use Rattle.chart.specs.Settings as given
use Rattle.chart.specs.Saying.{whole, ListedSays}
use Rattle.chart.specs.View.{room}
use Rattle.chart.specs.Working.{task}
use Rattle.chart.proofs.Finding.{listed_says}
use Rattle.chart.proofs.read.read.Goals as goal

pub returns-clause-says : goal.returns-clause-says
returns-clause-says g c =
    let begun = c.open.result in
    let p = c.args.phrase in
    let answer = Ok (record { weight = c.in_ok-weight.weight; nodes = c.in_ok-nodes.nodes }) in
    let same = c.settle-chart.ensures.setting ∙ c.open.ensures.setting in
    let is = c.settle-chart.ensures.settled ∙ ap (settled (task begun) room) c.open.ensures.opened ∙ ap (λ s. whole (given.task s)) c.open.ensures.setting in
    let said = listed_says c.in_ok-weight.ensures.says c.in_ok-nodes.ensures.says in
    subst₂ (λ s d. ListedSays (given.task s) d p c.args.nodes.now c.reading.new.nodes answer) same is said

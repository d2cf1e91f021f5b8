-- What the grammars of this crate mean. Assumes nothing.
use Rattle.std.specs.Prelude.{List}
use Rattle.grammar.specs.declared.Grammar.{Ghosts}
use Rattle.grammar.specs.Rules.{Rule, Limits}
use Rattle.grammars.specs.declared.list.RuleList.{RuleList}
use Rattle.grammars.specs.declared.rule.RuleRecord.{RuleRecord}
use Rattle.grammars.specs.declared.penalized.Penalized.{Penalized}
use Rattle.grammars.specs.Records.{rules_of, records_limits}
use Rattle.grammars.specs.Penalties.{penalized, penalized_limits}

-- the records of a rule list, and the rules that they stand for
abbrev pub listed_records : RuleList → List RuleRecord
listed_records list = list.checked.records.now

abbrev pub listed_rules : RuleList → List Rule
listed_rules list = rules_of (listed_records list)

pub listed_keeps : (list : RuleList) → Limits (listed_rules list)
listed_keeps list = records_limits list.checked.records.now list.checked.few list.checked.within

-- a layer over any grammar
module _ {G : Type 0} {g : Ghosts G} where
  -- the rules below, with the penalty on those of its symbol
  abbrev pub penalized_rules : Penalized G g → List Rule
  penalized_rules it = penalized it.symbol it.penalty (g.rules it.grammar)

  pub penalized_keeps : (it : Penalized G g) → Limits (penalized_rules it)
  penalized_keeps it = penalized_limits it.symbol it.penalty (g.rules it.grammar) (g.limits it.grammar)

-- What a grammar, a lattice and a weighing show together. Assumes nothing.
use Rattle.weighing.specs.Laws.{Lawful}
use Rattle.weighing.specs.declared.Weighing.{Ghosts as WeighingGhosts}
use Rattle.grammar.specs.declared.Grammar.{Ghosts as GrammarGhosts}
use Rattle.lattice.specs.declared.Lattice.{Ghosts as LatticeGhosts}
use Rattle.chart_model.specs.Task.{Sound}
use Rattle.chart.specs.Charts.{task_of}

pub sound_parts : {G L W : Type 0} (g : GrammarGhosts G) (l : LatticeGhosts L) (w : WeighingGhosts W) → ((x : W) → Lawful (w.weights x)) →
    (grammar : G) (lattice : L) (weighing : W) → Sound (task_of g l w grammar lattice weighing)
sound_parts g l w lawful grammar lattice weighing = record { grammar = g.limits grammar; lattice = l.limits lattice; weighing = lawful weighing }

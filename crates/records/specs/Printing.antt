-- How a refusal is printed. Assumes nothing.
use Rattle.std.specs.Prelude.{ℕ, List, ◌++◌, codes, decimal}

-- one line without its line feed
abbrev pub refused_text : ℕ → List ℕ
refused_text number = codes "refused " ++ decimal number

-- The numbers of the refusals of a text's form. Assumes nothing.
use Rattle.std.specs.Prelude.{ℕ}
use Rattle.line_format.specs.declared.fault.FormFault.{FormFault}
use Rattle.line_format.specs.declared.fault.FormFault.TheVariants.{TooManyLines, NotOfTheForm}

abbrev pub form_number : FormFault → ℕ
form_number TooManyLines = 3
form_number NotOfTheForm = 13

-- The word for a form.
use Rattle.std.specs.Prelude.{ℕ, List, codes}
use Rattle.sheet.specs.declared.form.Form.{Form}
use Rattle.sheet.specs.declared.form.Form.TheVariants.{Cnf, Dnf}

-- The form's name in the header of a text.
abbrev pub form_word : Form → List ℕ
form_word Cnf = codes "cnf"
form_word Dnf = codes "dnf"

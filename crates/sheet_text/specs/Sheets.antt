-- What the text of a sheet says.
use Rattle.std.specs.Prelude.{List}
use Rattle.prefix.specs.declared.kind.Kind.{Kind}
use Rattle.sheet.specs.declared.form.Form.{Form}
use Rattle.sheet.specs.declared.literal.Literal.{Literal}

-- A sheet as a text gives it: the form of its rules, the kinds of its positions, the literals of each rule.
pub record Sheet : Type 0 where
  pub form : Form
  pub kinds : List Kind
  pub rules : List (List Literal)

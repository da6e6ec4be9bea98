-- Rows of tables, whatever kind of name they have.
use Rattle.pef_format.specs.declared.named.Named.{Named}

-- a row with another kind of name
abbrev pub named : {F A B : Type 0} → (A → B) → Named F A → Named F B
named f row = record { fields = row.fields; name = f row.name }

-- A table of boxes.
use Rattle.std.specs.Prelude.{ℕ, ◌-◌, vec_len}
use Rattle.tree.specs.declared.table.Table.{Table}
use Rattle.tree.specs.Standing.{reserve}

-- how many boxes a table was made for
abbrev pub table_boxes : Table → ℕ
table_boxes t = vec_len t.nodes - reserve

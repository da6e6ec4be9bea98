-- The view of an export table as the table that it reads.
use Rattle.pef_hash.specs.declared.exports.Exports.{Exports}
use Rattle.pef_hash.specs.Exports.{ExportTable}

abbrev pub table_of : Exports → ExportTable
table_of e = record { power = e.power; count = e.count; bytes = e.table.now; strings = e.strings.now }

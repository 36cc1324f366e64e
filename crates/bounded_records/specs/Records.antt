-- The header of a view of records.
-- Rests on formats BoundedSheet.
use Rattle.formats.specs.BoundedSheet.{Heading, heading_of}
use Rattle.bounded_records.specs.declared.BoundedRecords.{BoundedRecords}

abbrev pub heading_in : BoundedRecords → Heading
heading_in r = heading_of r.start r.copies r.edges r.largest

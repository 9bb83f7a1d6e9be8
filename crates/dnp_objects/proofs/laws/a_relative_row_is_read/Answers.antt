use Rattle.std.proofs.Common.{sym}
use Rattle.dnp_objects.proofs.Given.{all_octets}
use Rattle.dnp_objects.proofs.Relatives.{relative_back, is_relative, only_relative, relative_low}
use Rattle.dnp_objects.proofs.laws.a_relative_row_is_read.Goals as goal

pub returns-clause-read : goal.returns-clause-read
returns-clause-read c = relative_back

pub returns-clause-parts : goal.returns-clause-parts
returns-clause-parts c = λ index common octets each size low. is_relative index octets common (all_octets octets each) size low

pub returns-clause-only : goal.returns-clause-only
returns-clause-only c = λ index common octets row is. sym (only_relative index octets common row is)

pub returns-clause-low : goal.returns-clause-low
returns-clause-low c = relative_low

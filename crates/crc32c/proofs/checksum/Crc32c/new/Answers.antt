use Rattle.crc32c.proofs.ChecksumLemmas.{next_table}
use Rattle.crc32c.proofs.checksum.Crc32c.new.Goals as goal

pub invariant_of-result : goal.invariant_of-result
invariant_of-result c =
    let octets = c.table_of_octets-octet.result in
    let is_octet = c.table_of_octets-octet.ensures in
    let is_one = next_table 8 octets c.table_of_octets-octet.result c.table_after-octet_and_one.result is_octet is_octet c.table_after-octet_and_one.ensures in
    let is_two = next_table 16 octets c.table_after-octet_and_one.result c.table_after-octet_and_two.result is_octet is_one c.table_after-octet_and_two.ensures in
    let is_three = next_table 24 octets c.table_after-octet_and_two.result c.table_after-octet_and_three.result is_octet is_two c.table_after-octet_and_three.ensures in
    let is_four = next_table 32 octets c.table_after-octet_and_three.result c.table_after-octet_and_four.result is_octet is_three c.table_after-octet_and_four.ensures in
    let is_five = next_table 40 octets c.table_after-octet_and_four.result c.table_after-octet_and_five.result is_octet is_four c.table_after-octet_and_five.ensures in
    let is_six = next_table 48 octets c.table_after-octet_and_five.result c.table_after-octet_and_six.result is_octet is_five c.table_after-octet_and_six.ensures in
    let is_seven = next_table 56 octets c.table_after-octet_and_six.result c.table_after-octet_and_seven.result is_octet is_six c.table_after-octet_and_seven.ensures in
    record { is_octet = is_octet; is_one = is_one; is_two = is_two; is_three = is_three; is_four = is_four; is_five = is_five; is_six = is_six; is_seven = is_seven }

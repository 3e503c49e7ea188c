-- The contracts decide: any two results that meet one are equal, and so are the lent lists at exit. Assumes nothing.
use mathlib.Core.Path.{◌≡◌, sym, ◌∙◌}
use Rattle.lists.proofs.Sure.{Decides, DecidesResult}
use Rattle.text.proofs.bytes.put_byte.Kinds as put_byte
use Rattle.text.proofs.bytes.put_byte.Reads as put-byte-reads
use Rattle.text.proofs.bytes.put.Kinds as put
use Rattle.text.proofs.bytes.put.Reads as put_reads
use Rattle.text.proofs.decimal.put_number.Kinds as put-number
use Rattle.text.proofs.decimal.put_number.Reads as put-number-reads
use Rattle.text.proofs.decimal.put_signed.Kinds as put-signed
use Rattle.text.proofs.decimal.put_signed.Reads as put-signed-reads
use Rattle.text.proofs.decimal.put_field.Kinds as put-field
use Rattle.text.proofs.decimal.put_field.Reads as put-field-reads
use Rattle.text.proofs.decimal.put_line.Kinds as put-line
use Rattle.text.proofs.decimal.put_line.Reads as put-line-reads
use Rattle.text.proofs.words.shared.Kinds as shared
use Rattle.text.proofs.words.shared.Reads as shared-reads

pub put_byte_decides : Decides put_byte.ps put_byte.r put-byte-reads.Post (λ κs s t. s.1.1.0.now ≡ t.1.1.0.now)
put_byte_decides κs a x y s t p q = (p.0 ∙ sym q.0, p.1 ∙ sym q.1)

pub put_decides : Decides put.ps put.r put_reads.Post (λ κs s t. s.1.1.0.now ≡ t.1.1.0.now)
put_decides κs a x y s t p q = (p.0 ∙ sym q.0, p.1 ∙ sym q.1)

pub put_number_decides : Decides put-number.ps put-number.r put-number-reads.Post (λ κs s t. s.1.1.0.now ≡ t.1.1.0.now)
put_number_decides κs a x y s t p q = (p.0 ∙ sym q.0, p.1 ∙ sym q.1)

pub put_signed_decides : Decides put-signed.ps put-signed.r put-signed-reads.Post (λ κs s t. s.1.1.0.now ≡ t.1.1.0.now)
put_signed_decides κs a x y s t p q = (p.0 ∙ sym q.0, p.1 ∙ sym q.1)

pub put_field_decides : Decides put-field.ps put-field.r put-field-reads.Post (λ κs s t. s.1.1.1.0.now ≡ t.1.1.1.0.now)
put_field_decides κs a x y s t p q = (p.0 ∙ sym q.0, p.1 ∙ sym q.1)

pub put_line_decides : Decides put-line.ps put-line.r put-line-reads.Post (λ κs s t. s.1.1.1.0.now ≡ t.1.1.1.0.now)
put_line_decides κs a x y s t p q = (p.0 ∙ sym q.0, p.1 ∙ sym q.1)

pub shared_decides : DecidesResult shared.ps shared.r shared-reads.Post
shared_decides κs a x y s t p q = p ∙ sym q

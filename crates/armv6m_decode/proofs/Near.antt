-- Which rows matter to each group of halfwords that the decoder separates by their top bits.
use Rattle.std.proofs.Common.{◌≡◌, ℕ, ◌/◌, ◌<◌, ◌^◌, arith}
use Rattle.armv6m_decode.specs.Rows.{first_fit}
use Rattle.armv6m_decode.specs.Table.{rows, decoded, op_or_undefined}
use Rattle.armv6m_decode.proofs.RowsLemmas.{near}
use Rattle.armv6m_decode.proofs.TableLemmas.{decoded_near}

pub shifts : (half : ℕ) → half < 2 ^ 16 → half / 4096 ≡ 0 → decoded half ≡ op_or_undefined (first_fit (near 0x0000 0x0FFF rows) half)
shifts half within top = decoded_near 0x0000 0x0FFF half within (omega arith) (omega arith) (omega arith)

pub shift_or_add : (half : ℕ) → half < 2 ^ 16 → half / 4096 ≡ 1 → decoded half ≡ op_or_undefined (first_fit (near 0x1000 0x1FFF rows) half)
shift_or_add half within top = decoded_near 0x1000 0x1FFF half within (omega arith) (omega arith) (omega arith)

pub move_or_compare : (half : ℕ) → half < 2 ^ 16 → half / 4096 ≡ 2 → decoded half ≡ op_or_undefined (first_fit (near 0x2000 0x2FFF rows) half)
move_or_compare half within top = decoded_near 0x2000 0x2FFF half within (omega arith) (omega arith) (omega arith)

pub add_or_subtract : (half : ℕ) → half < 2 ^ 16 → half / 4096 ≡ 3 → decoded half ≡ op_or_undefined (first_fit (near 0x3000 0x3FFF rows) half)
add_or_subtract half within top = decoded_near 0x3000 0x3FFF half within (omega arith) (omega arith) (omega arith)

pub data_processing : (half : ℕ) → half < 2 ^ 16 → half / 1024 ≡ 16 → decoded half ≡ op_or_undefined (first_fit (near 0x4000 0x43FF rows) half)
data_processing half within top = decoded_near 0x4000 0x43FF half within (omega arith) (omega arith) (omega arith)

pub high_registers : (half : ℕ) → half < 2 ^ 16 → half / 1024 ≡ 17 → decoded half ≡ op_or_undefined (first_fit (near 0x4400 0x47FF rows) half)
high_registers half within top = decoded_near 0x4400 0x47FF half within (omega arith) (omega arith) (omega arith)

pub exchange : (half : ℕ) → half < 2 ^ 16 → half / 256 ≡ 71 → decoded half ≡ op_or_undefined (first_fit (near 0x4700 0x47FF rows) half)
exchange half within top = decoded_near 0x4700 0x47FF half within (omega arith) (omega arith) (omega arith)

pub literal : (half : ℕ) → half < 2 ^ 16 → half / 2048 ≡ 9 → decoded half ≡ op_or_undefined (first_fit (near 0x4800 0x4FFF rows) half)
literal half within top = decoded_near 0x4800 0x4FFF half within (omega arith) (omega arith) (omega arith)

pub by_register : (half : ℕ) → half < 2 ^ 16 → half / 4096 ≡ 5 → decoded half ≡ op_or_undefined (first_fit (near 0x5000 0x5FFF rows) half)
by_register half within top = decoded_near 0x5000 0x5FFF half within (omega arith) (omega arith) (omega arith)

pub words : (half : ℕ) → half < 2 ^ 16 → half / 4096 ≡ 6 → decoded half ≡ op_or_undefined (first_fit (near 0x6000 0x6FFF rows) half)
words half within top = decoded_near 0x6000 0x6FFF half within (omega arith) (omega arith) (omega arith)

pub bytes : (half : ℕ) → half < 2 ^ 16 → half / 4096 ≡ 7 → decoded half ≡ op_or_undefined (first_fit (near 0x7000 0x7FFF rows) half)
bytes half within top = decoded_near 0x7000 0x7FFF half within (omega arith) (omega arith) (omega arith)

pub halfwords : (half : ℕ) → half < 2 ^ 16 → half / 4096 ≡ 8 → decoded half ≡ op_or_undefined (first_fit (near 0x8000 0x8FFF rows) half)
halfwords half within top = decoded_near 0x8000 0x8FFF half within (omega arith) (omega arith) (omega arith)

pub on_stack : (half : ℕ) → half < 2 ^ 16 → half / 4096 ≡ 9 → decoded half ≡ op_or_undefined (first_fit (near 0x9000 0x9FFF rows) half)
on_stack half within top = decoded_near 0x9000 0x9FFF half within (omega arith) (omega arith) (omega arith)

pub addresses : (half : ℕ) → half < 2 ^ 16 → half / 4096 ≡ 10 → decoded half ≡ op_or_undefined (first_fit (near 0xA000 0xAFFF rows) half)
addresses half within top = decoded_near 0xA000 0xAFFF half within (omega arith) (omega arith) (omega arith)

pub push : (half : ℕ) → half < 2 ^ 16 → half / 512 ≡ 90 → decoded half ≡ op_or_undefined (first_fit (near 0xB400 0xB5FF rows) half)
push half within top = decoded_near 0xB400 0xB5FF half within (omega arith) (omega arith) (omega arith)

pub pop : (half : ℕ) → half < 2 ^ 16 → half / 512 ≡ 94 → decoded half ≡ op_or_undefined (first_fit (near 0xBC00 0xBDFF rows) half)
pop half within top = decoded_near 0xBC00 0xBDFF half within (omega arith) (omega arith) (omega arith)

pub reserved : (half : ℕ) → half < 2 ^ 16 → half / 512 ≡ 92 → decoded half ≡ op_or_undefined (first_fit (near 0xB800 0xB9FF rows) half)
reserved half within top = decoded_near 0xB800 0xB9FF half within (omega arith) (omega arith) (omega arith)

pub stack_pointer : (half : ℕ) → half < 2 ^ 16 → half / 512 ≡ 88 → decoded half ≡ op_or_undefined (first_fit (near 0xB000 0xB1FF rows) half)
stack_pointer half within top = decoded_near 0xB000 0xB1FF half within (omega arith) (omega arith) (omega arith)

pub extends : (half : ℕ) → half < 2 ^ 16 → half / 512 ≡ 89 → decoded half ≡ op_or_undefined (first_fit (near 0xB200 0xB3FF rows) half)
extends half within top = decoded_near 0xB200 0xB3FF half within (omega arith) (omega arith) (omega arith)

pub masking : (half : ℕ) → half < 2 ^ 16 → half / 512 ≡ 91 → decoded half ≡ op_or_undefined (first_fit (near 0xB600 0xB7FF rows) half)
masking half within top = decoded_near 0xB600 0xB7FF half within (omega arith) (omega arith) (omega arith)

pub reverses : (half : ℕ) → half < 2 ^ 16 → half / 512 ≡ 93 → decoded half ≡ op_or_undefined (first_fit (near 0xBA00 0xBBFF rows) half)
reverses half within top = decoded_near 0xBA00 0xBBFF half within (omega arith) (omega arith) (omega arith)

pub hints : (half : ℕ) → half < 2 ^ 16 → half / 512 ≡ 95 → decoded half ≡ op_or_undefined (first_fit (near 0xBE00 0xBFFF rows) half)
hints half within top = decoded_near 0xBE00 0xBFFF half within (omega arith) (omega arith) (omega arith)

pub lists : (half : ℕ) → half < 2 ^ 16 → half / 4096 ≡ 12 → decoded half ≡ op_or_undefined (first_fit (near 0xC000 0xCFFF rows) half)
lists half within top = decoded_near 0xC000 0xCFFF half within (omega arith) (omega arith) (omega arith)

pub conditional : (half : ℕ) → half < 2 ^ 16 → half / 4096 ≡ 13 → decoded half ≡ op_or_undefined (first_fit (near 0xD000 0xDFFF rows) half)
conditional half within top = decoded_near 0xD000 0xDFFF half within (omega arith) (omega arith) (omega arith)

pub branch : (half : ℕ) → half < 2 ^ 16 → half / 2048 ≡ 28 → decoded half ≡ op_or_undefined (first_fit (near 0xE000 0xE7FF rows) half)
branch half within top = decoded_near 0xE000 0xE7FF half within (omega arith) (omega arith) (omega arith)

-- The toolkit for signed numbers: ℤ for `omega`, congruence, remainders and quotients, divisors, the machine's signed values.
pub mod Integers
pub mod Congruence
pub mod Remainders
pub mod Quotients
pub mod Divisors
pub mod Bits

mod Levelling
mod Lent
mod OnePart

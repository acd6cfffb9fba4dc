-- Laws of the code's own steps.
mod Steps
